-- The rows that a body names: each has to be there and to be seen by the caller, in byte order of
-- the attributes.
use Rattle.api_types.specs.Refusing.{not_found}
use Rattle.api_types.specs.Ident.{Ident, ident_text}
use Rattle.api_types.specs.declared.kind.Kind.{Kind}
use Rattle.api_types.specs.declared.refusal.Refusal.{Refusal}
use Rattle.std.specs.Prelude.{Bool, List, None, Option, Some, [], find, not, option_map}
use Rattle.net_addr.specs.Words.{Text}

-- the printed text of the id that a body gives
abbrev pub text_of : Option Ident → Text
text_of None = []
text_of (Some i) = ident_text i

-- no row has it
abbrev pub no_id : Ident
no_id = record { ordinal = 0; count = 0 }

-- the body names a row, and it isn't found
abbrev pub unless_found : {R : Type 0} → Kind → Option Ident → Option R → Option Refusal
unless_found kind None found = None
unless_found kind (Some i) (Some r) = None
unless_found kind (Some i) None = Some (not_found kind (ident_text i))

-- the first of the named rows that fails the test
abbrev pub unless_all : Kind → (Ident → Bool) → List Ident → Option Refusal
unless_all kind found names =
    option_map (λ i. not_found kind (ident_text i)) (find (λ i. not (found i)) names)
