-- How a call is answered: with the first refusal whose condition holds, and otherwise as it says.
-- The order of refusals is the order in which they are written.
use Rattle.std.specs.Prelude.{Bool, List, [], ◌∷◌, Option, None, Some, if◌then◌else◌}
use Rattle.net_addr.specs.Words.{Text}
use Rattle.api_types.specs.Ident.{Ident}
use Rattle.api_types.specs.Outcome.{Outcome, Refused, Told, Moved}
use Rattle.api_types.specs.Table.{row_of}
use Rattle.api_types.specs.Titles.{title_of}
use Rattle.api_types.specs.declared.kind.Kind.{Kind}
use Rattle.api_types.specs.declared.refusal.Refusal.{Refusal}
use Rattle.api_types.specs.declared.refusal.Refusal.TheVariants.{NotFound}

abbrev pub when : Bool → Refusal → Option Refusal
when holds refusal = if holds then Some refusal else None

abbrev pub first_refusal : List (Option Refusal) → Option Refusal
first_refusal [] = None
first_refusal (None ∷ rest) = first_refusal rest
first_refusal (Some refusal ∷ rest) = Some refusal

abbrev pub unless : Option Refusal → Outcome → Outcome
unless None outcome = outcome
unless (Some refusal) outcome = Refused refusal

-- goes on with what is there, and is refused where nothing is
abbrev pub needing : {X : Type 0} → Refusal → Option X → (X → Outcome) → Outcome
needing refusal None rest = Refused refusal
needing refusal (Some x) rest = rest x

-- the row that an id names among those that the caller sees
abbrev pub at_name : {R : Type 0} → (R → Ident) → Option Ident → List R → Option R
at_name id_of None rows = None
at_name id_of (Some i) rows = row_of id_of i rows

abbrev pub not_found : Kind → Text → Refusal
not_found kind text = NotFound (title_of kind) text

-- what the caller is told of an outcome
abbrev pub answer_alone : Outcome → Outcome
answer_alone (Refused refusal) = Refused refusal
answer_alone (Told reply) = Told reply
answer_alone (Moved rows reply) = Told reply
