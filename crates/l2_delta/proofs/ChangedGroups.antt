-- Groups and rules that a change leaves alone, told number by number.
use Rattle.std.proofs.Common.{◌≡◌, ◌∙◌, ℕ, ◌+◌, ◌<◌, List, drop, get_or, length, Option, Some, None, true, false, refl, sym, ap, subst}
use Rattle.std.specs.Prelude.{◌==◌, ◌||◌, if◌then◌else◌}
use Rattle.std.specs.List.{list_any}
use Rattle.std.proofs.lemmas.Bool.{eqb-true}
use Rattle.std.proofs.lemmas.List.{drop_more}
use Rattle.api_types.specs.Ident.{Ident}
use Rattle.api_types.specs.Table.{ident_eq}
use Rattle.api_types.specs.declared.group.GroupRow.{GroupRow}
use Rattle.api_types.specs.declared.group.RuleRow.{RuleRow}
use Rattle.api_types.proofs.ListLemmas.{false_true}
use Rattle.api_types.proofs.NameLemmas.{by_test, ident_same, ident_sym}
use Rattle.l2_delta.specs.Filtered.{is_group, is_of_group, is_one_group, rule_of_group}

-- what holds of a number, and of all but those from it on, holds of all but those after it
pub one_left : (Q : ℕ → Type 0) (numbers : List ℕ) (place : ℕ) → place < length numbers → Q (get_or numbers place 0)
    → ((k : ℕ) → list_any (λ m. m == k) (drop place numbers) ≡ false → Q k) → (k : ℕ) → list_any (λ m. m == k) (drop (place + 1) numbers) ≡ false → Q k
one_left Q numbers place less here rest k away = by_test (get_or numbers place 0 == k) (Q k)
    (λ is. subst Q (eqb-true (get_or numbers place 0) k is) here)
    (λ off. rest k (ap (list_any (λ m. m == k)) (drop_more numbers place 0 less) ∙ ap (λ b. b || list_any (λ m. m == k) (drop (place + 1) numbers)) off ∙ away))

no_rule_of : (i : Ident) (o : Option RuleRow) → is_of_group i o ≡ false → rule_of_group i o ≡ None
no_rule_of i None off = refl
no_rule_of i (Some r) off = by_test (ident_eq r.group i) (rule_of_group i (Some r) ≡ None)
    (λ is. false_true _ (sym off ∙ ident_sym r.group i is))
    (λ other. ap (λ b. if b then Some r else None) other)

-- two rules of other groups are no rules of a group
pub neither_of : (i : Ident) (o p : Option RuleRow) → is_of_group i o ≡ false → is_of_group i p ≡ false → rule_of_group i o ≡ rule_of_group i p
neither_of i o p h k = no_rule_of i o h ∙ sym (no_rule_of i p k)

-- the rows of one group are of the same groups
pub one_group : (i : Ident) (o p : Option GroupRow) → is_one_group o p ≡ true → is_group i o ≡ is_group i p
one_group i None None is = refl
one_group i None (Some h) is = false_true _ is
one_group i (Some g) None is = false_true _ is
one_group i (Some g) (Some h) is = ap (ident_eq i) (ident_same g.id h.id is)
