-- A look-up by id, where no two rows have the same.
use Rattle.std.proofs.Common.{◌≡◌, List, [], ◌∷◌, Bool, true, false, cond, Some, None, map, refl, ap, sym, subst, ◌∙◌}
use Rattle.std.specs.Prelude.{◌&&◌, ◌||◌}
use Rattle.std.specs.List.{IsDistinct, AllByRecursion}
use Rattle.api_types.specs.Ident.{Ident}
use Rattle.api_types.specs.Table.{ident_eq, row_of, HaveOwnIds}
use Rattle.api_types.specs.Lists.{stands_so, is_some_so}
use Rattle.api_types.proofs.NameLemmas.{ident_same}
use Rattle.api_types.proofs.ListLemmas.{or_false}

module _ {R : Type 0} (id_of : R → Ident) (test : R → Bool) where
  -- no row passes where none has the id
  none_so : (i : Ident) (rows : List R) → AllByRecursion (λ y. ident_eq i y ≡ false) (map id_of rows) → stands_so id_of i test rows ≡ false
  none_so i [] all = refl
  none_so i (x ∷ rows) all = ap (λ b. (b && test x) || stands_so id_of i test rows) all.0 ∙ none_so i rows all.1

  -- a row with the id passes exactly where the one that is found does
  pub stands_so-found : (i : Ident) (rows : List R) → HaveOwnIds id_of rows → stands_so id_of i test rows ≡ is_some_so test (row_of id_of i rows)
  unfolding IsDistinct
  stands_so-found i [] own = refl
  stands_so-found i (x ∷ rows) own = by (ident_eq i (id_of x)) refl (stands_so-found i rows own.1)
      (λ e. subst (λ k. AllByRecursion (λ y. ident_eq k y ≡ false) (map id_of rows)) (sym e) own.0)
    where
      by : (b : Bool) → ident_eq i (id_of x) ≡ b → stands_so id_of i test rows ≡ is_some_so test (row_of id_of i rows)
          → (i ≡ id_of x → AllByRecursion (λ y. ident_eq i y ≡ false) (map id_of rows))
          → (b && test x) || stands_so id_of i test rows ≡ is_some_so test (cond b (Some x) (row_of id_of i rows))
      by true is rest apart = ap (λ b. test x || b) (none_so i rows (apart (ident_same i (id_of x) is))) ∙ or_false (test x)
      by false is rest apart = rest

  pub found_some : (i : Ident) (rows : List R) (x : R) (b : Bool) → HaveOwnIds id_of rows → Some x ≡ row_of id_of i rows → b ≡ test x → b ≡ stands_so id_of i test rows
  found_some i rows x b own at e = e ∙ ap (is_some_so test) at ∙ sym (stands_so-found i rows own)

  pub found_none : (i : Ident) (rows : List R) → HaveOwnIds id_of rows → None ≡ row_of id_of i rows → false ≡ stands_so id_of i test rows
  found_none i rows own at = ap (is_some_so test) at ∙ sym (stands_so-found i rows own)
