-- Lists of numbers, and tests of them.
use Rattle.std.proofs.Common.{◌≡◌, ◌∙◌, ℕ, List, [], ◌∷◌, Bool, true, false, ap, sym, arith}
use Rattle.std.specs.Prelude.{◌||◌, nat_lt}
use Rattle.std.specs.List.{list_any}
use Rattle.std.proofs.lemmas.Bool.Decides.{nat_tests}
use Rattle.api_types.proofs.ListLemmas.{false_true, or_none}
use Rattle.api_types.proofs.NameLemmas.{by_test}
use Rattle.plane_types.specs.Keyed.{are_one}
use Rattle.table_edits.specs.EditsAt.{among}

pub one_number : (k m : ℕ) → are_one nat_lt k m ≡ true → k ≡ m
one_number k m h = grind (arith, nat_tests, h)

-- if none of some numbers passes, each of them fails
pub none_any : (test : ℕ → Bool) (ns : List ℕ) (k : ℕ) → list_any test ns ≡ false
    → among nat_lt k ns ≡ true → test k ≡ false
none_any test [] k none there = false_true _ there
none_any test (m ∷ ns) k none there =
    let parts = or_none (test m) (list_any test ns) none in
    by_test (are_one nat_lt k m) (test k ≡ false)
    (λ is. ap test (one_number k m is) ∙ parts.0)
    (λ off.
    none_any test ns k parts.1 (sym (ap (λ b. b || among nat_lt k ns) off) ∙ there))
