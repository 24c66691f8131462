-- Of rows with ids of their own, the one that is named and seen.
use Rattle.std.proofs.Common.{◌≡◌, List, [], ◌∷◌, Bool, true, false, cond, Option, Some, None, refl, ap, sym, subst, ◌∙◌, map, if◌then◌else◌}
use Rattle.std.specs.Prelude.{filter}
use Rattle.std.specs.List.{AllByRecursion, IsDistinct}
use Rattle.api_types.specs.Refusing.{at_name}
use Rattle.api_types.specs.Ident.{Ident}
use Rattle.api_types.specs.Table.{HaveOwnIds, ident_eq, row_of}
use Rattle.api_types.proofs.NameLemmas.{ident_same}

abbrev pub if_seen : {R : Type 0} → (R → Bool) → Option R → Option R
if_seen seen None = None
if_seen seen (Some r) = if seen r then Some r else None

-- an id that no row has is found nowhere
unlike : {R : Type 0} (id_of : R → Ident) (seen : R → Bool) (i : Ident) (xs : List R) → AllByRecursion (λ j. ident_eq i j ≡ false) (map id_of xs) → row_of id_of i (filter seen xs) ≡ None
unlike id_of seen i [] all = refl
unlike id_of seen i (x ∷ xs) all = by (seen x) (unlike id_of seen i xs all.1)
  where
    by : (b : Bool) → row_of id_of i (filter seen xs) ≡ None → row_of id_of i (cond b (x ∷ filter seen xs) (filter seen xs)) ≡ None
    by true rest = ap (λ b. cond b (Some x) (row_of id_of i (filter seen xs))) all.0 ∙ rest
    by false rest = rest

pub seen_row : {R : Type 0} (id_of : R → Ident) (seen : R → Bool) (i : Ident) (xs : List R) → HaveOwnIds id_of xs → row_of id_of i (filter seen xs) ≡ if_seen seen (row_of id_of i xs)
unfolding IsDistinct
seen_row id_of seen i [] own = refl
seen_row id_of seen i (x ∷ xs) own = by (seen x) refl (ident_eq i (id_of x)) refl (seen_row id_of seen i xs own.1)
  where
    by : (s : Bool) → seen x ≡ s → (b : Bool) → ident_eq i (id_of x) ≡ b → row_of id_of i (filter seen xs) ≡ if_seen seen (row_of id_of i xs)
        → row_of id_of i (cond s (x ∷ filter seen xs) (filter seen xs)) ≡ if_seen seen (cond b (Some x) (row_of id_of i xs))
    by true is true hit rest = ap (λ b. cond b (Some x) (row_of id_of i (filter seen xs))) hit ∙ sym (ap (λ b. if b then Some x else None) is)
    by true is false miss rest = ap (λ b. cond b (Some x) (row_of id_of i (filter seen xs))) miss ∙ rest
    by false is true hit rest =
        let same = ident_same i (id_of x) hit in
        unlike id_of seen i xs (subst (λ j. AllByRecursion (λ k. ident_eq j k ≡ false) (map id_of xs)) (sym same) own.0) ∙ sym (ap (λ b. if b then Some x else None) is)
    by false is false miss rest = rest

-- what is found under an id, where it is seen, is what is named
pub named_at : {R : Type 0} (id_of : R → Ident) (seen : R → Bool) (xs : List R) → HaveOwnIds id_of xs → (name : Option Ident) (i : Ident) → name ≡ Some i
    → (found : Option R) → found ≡ row_of id_of i xs → if_seen seen found ≡ at_name id_of name (filter seen xs)
named_at id_of seen xs own name i is found at =
    ap (if_seen seen) at ∙ (sym (seen_row id_of seen i xs own) ∙ ap (λ n. at_name id_of n (filter seen xs)) (sym is))
