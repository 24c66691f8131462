-- Tags that are free from one on.
use Rattle.std.proofs.Common.{◌≡◌, ◌∙◌, ℕ, ◌+◌, ◌-◌, ◌<◌, List, [], ◌∷◌, Bool, true, false, cond, not, ap, arith}
use Rattle.std.specs.Prelude.{◌==◌, nat_eq}
use Rattle.std.specs.HashSet.{HashSet, contains}
use Rattle.std.specs.List.{filter, list_any}
use Rattle.plane_types.specs.NewTags.{free_tags, numbers}
use Rattle.plane_types.proofs.NumberLemmas.{numbers-end, numbers-step}
use Rattle.l2_agent.specs.Free.{free_from, is_left}

-- the first, or the rest alone
pub first_free : {S : Type 0} (kept : HashSet ℕ S) (first : ℕ) → first < 4095 → is_left kept first ≡ true → free_from kept first ≡ first ∷ free_from kept (first + 1)
first_free kept first h e = ap (filter (is_left kept)) (numbers-step first 4095 h) ∙ ap (λ (b : Bool). cond b (first ∷ free_from kept (first + 1)) (free_from kept (first + 1))) e

pub first_kept : {S : Type 0} (kept : HashSet ℕ S) (first : ℕ) → first < 4095 → is_left kept first ≡ false → free_from kept first ≡ free_from kept (first + 1)
first_kept kept first h e = ap (filter (is_left kept)) (numbers-step first 4095 h) ∙ ap (λ (b : Bool). cond b (first ∷ free_from kept (first + 1)) (free_from kept (first + 1))) e

-- none behind the last tag
pub none_behind : {S : Type 0} (kept : HashSet ℕ S) (first : ℕ) → first ≡ 4095 → free_from kept first ≡ []
none_behind kept first h =
    let none : 4095 - first ≡ 0 = omega (arith, h) in
    ap (filter (is_left kept)) (numbers-end first (4095 - first) none)

-- a set that has what is kept leaves what is free
pub free_alike : {S : Type 0} (kept : HashSet ℕ S) (tags : List ℕ) → ((t : ℕ) → contains nat_eq kept t ≡ list_any (λ k. k == t) tags) → free_from kept 1 ≡ free_tags tags
unfolding free_tags
free_alike kept tags same = λ j. filter (λ t. not (same t j)) (numbers 1 4094)
