-- Texts of ids, read.
use Rattle.std.proofs.Common.{◌≡◌, ℕ, ◌/◌, ◌%◌, ◌^◌, Bool, true, false, ◌&&◌, List, Option, Some, None, refl, sym, ap, ◌∙◌, arith}
use Rattle.std.specs.Prelude.{if◌then◌else◌}
use Rattle.std.specs.Option.{option_and_then}
use Rattle.std.specs.Int.{w128, from_be_bytes}
use Rattle.std.specs.Str.{bytes_eq}
use Rattle.std.proofs.lemmas.Bool.Decides.{nat_tests}
use Rattle.std.proofs.lemmas.Slice.Eq.{bytes_eq-Decides}
use Rattle.uuid.specs.Text.{parsed_hyphenated}
use Rattle.api_types.proofs.IdentLemmas.{ordinal_back, count_back}
use Rattle.api_types.specs.Ident.{Ident, IsDrawable, Spells, uuid_bytes}
use Rattle.json_values.specs.Texts.{is_drawable, ident_if, ident_at, ident_with, id_in}

drawn : (i : Ident) → IsDrawable i → is_drawable i ≡ true
drawn i h = let a = h.first_ordinal in let b = h.last_ordinal in let c = h.first_count in let d = h.last_count in grind (arith, nat_tests)

both : (a b : Bool) → (a && b) ≡ true → (a ≡ true) × (b ≡ true)
both true b h = (refl, h)
both false b h = absurd cc

may_be_drawn : (i : Ident) → is_drawable i ≡ true → IsDrawable i
may_be_drawn i h = record {
  first_ordinal = grind (arith, nat_tests);
  last_ordinal = grind (arith, nat_tests);
  first_count = grind (arith, nat_tests);
  last_count = grind (arith, nat_tests);
}

-- the numbers of an id stand in its bytes
ident_back : (i : Ident) → IsDrawable i → ident_at (from_be_bytes w128 (uuid_bytes i)) ≡ i
ident_back i h =
    let n = from_be_bytes w128 (uuid_bytes i) in
    let o : n / 2 ^ 96 ≡ i.ordinal = omega (arith, ordinal_back i h) in
    let c : n % 2 ^ 62 ≡ i.count = omega (arith, count_back i h) in
    λ j. record { ordinal = o j; count = c j }

same_bytes : (i : Ident) → bytes_eq (uuid_bytes i) (uuid_bytes i) ≡ true
same_bytes i = (bytes_eq-Decides (uuid_bytes i) (uuid_bytes i)).1 refl

if_drawn : (a b : Bool) (i : Ident) → a ≡ true → b ≡ true → (if a && b then Some i else None) ≡ Some i
if_drawn true true i p q = refl
if_drawn true false i p q = absurd cc
if_drawn false b i p q = absurd cc

pub id_read : (text : List ℕ) (i : Ident) → Spells text i → Some i ≡ id_in text
unfolding id_in
id_read text i h =
    let at : ident_with (uuid_bytes i) ≡ ident_if (uuid_bytes i) i = ap (ident_if (uuid_bytes i)) (ident_back i h.drawable) in
    sym (ap (option_and_then ident_with) h.form ∙ at ∙ if_drawn (is_drawable i) (bytes_eq (uuid_bytes i) (uuid_bytes i)) i (drawn i h.drawable) (same_bytes i))

said_by : (bytes : List ℕ) (j i : Ident) (b : Bool) → (is_drawable j && bytes_eq (uuid_bytes j) bytes) ≡ b → (if b then Some j else None) ≡ Some i
    → (is_drawable i ≡ true) × (uuid_bytes i ≡ bytes)
said_by bytes j i true is e =
    let same : j ≡ i = cc in
    let p = both (is_drawable j) (bytes_eq (uuid_bytes j) bytes) is in
    (ap is_drawable (sym same) ∙ p.0, ap uuid_bytes (sym same) ∙ (bytes_eq-Decides (uuid_bytes j) bytes).0 p.1)
said_by bytes j i false is e = absurd cc

if_said : (bytes : List ℕ) (j i : Ident) → ident_if bytes j ≡ Some i → (is_drawable i ≡ true) × (uuid_bytes i ≡ bytes)
if_said bytes j i e = said_by bytes j i (is_drawable j && bytes_eq (uuid_bytes j) bytes) refl e

spelled_by : (text : List ℕ) (i : Ident) (o : Option (List ℕ)) → parsed_hyphenated text ≡ o → option_and_then ident_with o ≡ Some i → Spells text i
spelled_by text i None is e = absurd cc
spelled_by text i (Some bytes) is e =
    let p = if_said bytes (ident_at (from_be_bytes w128 bytes)) i e in
    record { drawable = may_be_drawn i p.0; form = is ∙ ap Some (sym p.1) }

-- an id that is read is spelled
pub id_spelled : (text : List ℕ) (i : Ident) → id_in text ≡ Some i → Spells text i
unfolding id_in
id_spelled text i e = spelled_by text i (parsed_hyphenated text) refl e

none_by : (text : List ℕ) (o : Option Ident) → id_in text ≡ o → ((i : Ident) → Spells text i → ⊥) → None ≡ o
none_by text None is none = refl
none_by text (Some i) is none = absurd (none i (id_spelled text i is))

pub no_id : (text : List ℕ) → ((i : Ident) → Spells text i → ⊥) → None ≡ id_in text
no_id text none = none_by text (id_in text) refl none
