-- Disassociating the floating addresses whose fixed address leaves a port: which rows it makes, and that they are consistent.
use Rattle.std.proofs.Common.{◌≡◌, ◌∙◌, ℕ, suc, List, [], ◌∷◌, Bool, true, false, cond, Some, slice_get, map, refl, ap, sym, subst, arith}
use Rattle.std.specs.Prelude.{filter, if◌then◌else◌, ◌||◌}
use Rattle.std.specs.List.{list_any}
use Rattle.api_types.specs.Ident.{Ident}
use Rattle.api_types.specs.Lists.{Each, is_some_so}
use Rattle.api_types.specs.RowLists.{RowLists}
use Rattle.api_types.specs.Table.{ident_eq}
use Rattle.api_types.specs.Consistent.{IsConsistent}
use Rattle.api_types.specs.declared.floating.FloatingRow.{FloatingRow}
use Rattle.api_types.specs.declared.port.Fixed.{Fixed}
use Rattle.api_types.specs.declared.kind.Row.TheVariants.{Floating}
use Rattle.row_laws.specs.OwnPorts.{freed_if, with_floatings_freed}
use Rattle.row_laws.proofs.Service.FloatingsFreed.{floatings_freed}
use Rattle.api_types.proofs.ListLemmas.{any-none, at_filter, false_true, filter-any, one_row}
use Rattle.api_types.proofs.NameLemmas.{by_test, ident_itself, ident_sym}
use Rattle.call_parts.specs.Edits.{Put, made}
use Rattle.api_types.specs.WithRows.{put_in}
use Rattle.call_parts.specs.Leaving.{disassociated, disassociations, loses_target}
use Rattle.kept_laws.proofs.EditLemmas.{all_put, floatings_put}

-- rows that are put one by one, row by row
abbrev put_all : List FloatingRow → FloatingRow → FloatingRow
put_all [] q = q
put_all (f ∷ fs) q = put_all fs (if ident_eq f.id q.id then f else q)

map_twice : {R S T : Type 0} (f : R → S) (g : S → T) (xs : List R) → map g (map f xs) ≡ map (λ x. g (f x)) xs
map_twice f g [] = refl
map_twice f g (x ∷ xs) = ap (λ ys. g (f x) ∷ ys) (map_twice f g xs)

map_same : {R : Type 0} (xs : List R) → xs ≡ map (λ x. x) xs
map_same [] = refl
map_same (x ∷ xs) = ap (λ ys. x ∷ ys) (map_same xs)

map_agree : {R S : Type 0} (f g : R → S) (xs : List R) → Each (λ x. f x ≡ g x) xs → map f xs ≡ map g xs
map_agree f g [] all = refl
map_agree f g (x ∷ xs) all = λ j. all 0 x refl j ∷ map_agree f g xs (λ k y at. all (suc k) y at) j

put_each : (fs xs : List FloatingRow) → all_put (λ f. f.id) fs xs ≡ map (put_all fs) xs
put_each [] xs = map_same xs
put_each (f ∷ fs) xs = put_each fs (put_in (λ g. g.id) f xs) ∙ map_twice (λ q. if ident_eq f.id q.id then f else q) (put_all fs) xs

one_of : (b : Bool) (x y : FloatingRow) → x ≡ y → cond b x y ≡ x
one_of true x y same = refl
one_of false x y same = sym same

-- of rows that are disassociated and put, the one with the same id is there in the end
put_is : (q : FloatingRow) (ys : List FloatingRow) (r : FloatingRow) → r.id ≡ q.id → Each (λ y. ident_eq y.id q.id ≡ true → y ≡ q) ys
    → put_all (map disassociated ys) r ≡ cond (list_any (λ y. ident_eq y.id q.id) ys) (disassociated q) r
put_is q [] r same all = refl
put_is q (y ∷ ys) r same all = by (ident_eq y.id q.id) refl (λ s same_s. put_is q ys s same_s (λ k z at. all (suc k) z at))
  where
    test_is : ident_eq y.id r.id ≡ ident_eq y.id q.id
    test_is = ap (ident_eq y.id) same

    by : (b : Bool) → ident_eq y.id q.id ≡ b
        → ((s : FloatingRow) → s.id ≡ q.id → put_all (map disassociated ys) s ≡ cond (list_any (λ z. ident_eq z.id q.id) ys) (disassociated q) s)
        → put_all (map disassociated ys) (if ident_eq y.id r.id then disassociated y else r) ≡ cond (b || list_any (λ z. ident_eq z.id q.id) ys) (disassociated q) r
    by true is rest =
        let it : y ≡ q = all 0 y refl is in
        (λ j. put_all (map disassociated ys) (if (test_is ∙ is) j then disassociated (it j) else r))
        ∙ (rest (disassociated q) refl ∙ one_of (list_any (λ z. ident_eq z.id q.id) ys) (disassociated q) (disassociated q) refl)
    by false is rest = (λ j. put_all (map disassociated ys) (if (test_is ∙ is) j then disassociated y else r)) ∙ rest r same

module _ (rows : RowLists) (c : IsConsistent rows) (port : Ident) (kept : List Fixed) where
  abbrev pub leaves : FloatingRow → Bool
  leaves f = is_some_so (loses_target port kept) f.target

  it_is : (k : ℕ) (q : FloatingRow) → slice_get rows.floatings k ≡ Some q → (j : ℕ) (y : FloatingRow) → slice_get rows.floatings j ≡ Some y → ident_eq y.id q.id ≡ true → y ≡ q
  it_is k q at j y at_y same = one_row (λ f. ident_eq q.id f.id) rows.floatings (omega (arith, c.numbered.ids q.id)) j k y q at_y at (ident_sym y.id q.id same) (ident_itself q.id)

  named_there : (k : ℕ) (q : FloatingRow) → slice_get rows.floatings k ≡ Some q → list_any (λ y. ident_eq y.id q.id) (filter leaves rows.floatings) ≡ leaves q
  named_there k q at = by (leaves q) refl
    where
      by : (b : Bool) → leaves q ≡ b → list_any (λ y. ident_eq y.id q.id) (filter leaves rows.floatings) ≡ b
      by true is = filter-any leaves (λ y. ident_eq y.id q.id) rows.floatings k q at is (ident_itself q.id)
      by false is = any-none (λ y. ident_eq y.id q.id) (filter leaves rows.floatings) (λ j y at_y.
          let here = at_filter leaves rows.floatings j y at_y in
          by_test (ident_eq y.id q.id) (ident_eq y.id q.id ≡ false)
          (λ same. false_true _ (sym is ∙ (ap leaves (sym (it_is k q at here.0 y here.1 same)) ∙ here.2)))
          (λ other. other))

  as_freed : (b : Bool) (q : FloatingRow) → cond b (disassociated q) q ≡ freed_if b q
  as_freed true q = refl
  as_freed false q = refl

  pub disassociated_rows : made rows (disassociations rows.floatings port kept) ≡ with_floatings_freed leaves rows
  disassociated_rows =
      let fs : List FloatingRow = filter leaves rows.floatings in
      ap (made rows) (sym (map_twice disassociated (λ f. Put (Floating f)) fs))
      ∙ (floatings_put rows (map disassociated fs)
      ∙ ap (λ floatings. record rows { floatings = floatings }) (put_each (map disassociated fs) rows.floatings
      ∙ map_agree (put_all (map disassociated fs)) (λ f. freed_if (leaves f) f) rows.floatings (λ k q at.
      put_is q fs q refl (λ j y at_y same. let here = at_filter leaves rows.floatings j y at_y in it_is k q at here.0 y here.1 same)
      ∙ ((λ j. cond (named_there k q at j) (disassociated q) q) ∙ as_freed (leaves q) q))))

  -- a floating address that is as it was, or leads nowhere
  pub disassociations_kept : IsConsistent (made rows (disassociations rows.floatings port kept))
  disassociations_kept = subst IsConsistent (sym disassociated_rows) (floatings_freed rows c leaves)
