-- Which rows disassociating the floating addresses whose fixed address leaves a port makes, and that others' stay.
use Rattle.api_types.proofs.ListLemmas.{and_both, any-none, at_filter, false_true, filter-any, one_row}
use Rattle.api_types.proofs.NameLemmas.{by_test, ident_itself, ident_sym}
use Rattle.api_types.specs.Consistent.{IsConsistent}
use Rattle.api_types.specs.Ident.{Ident}
use Rattle.api_types.specs.Lists.{Each, is_some_so, times}
use Rattle.api_types.specs.RowLists.{RowLists}
use Rattle.api_types.specs.Table.{ident_eq}
use Rattle.api_types.specs.WithRows.{put_in}
use Rattle.api_types.specs.declared.floating.FloatingRow.{FloatingRow}
use Rattle.api_types.specs.declared.floating.Target.{Target}
use Rattle.api_types.specs.declared.kind.Row.TheVariants.{Floating}
use Rattle.api_types.specs.declared.port.Fixed.{Fixed}
use Rattle.api_types.specs.declared.port.PortRow.{PortRow}
use Rattle.api_types.specs.declared.router.Gateway.{Gateway}
use Rattle.api_types.specs.declared.router.RouterRow.{RouterRow}
use Rattle.call_parts.specs.Edits.{Put, made}
use Rattle.call_parts.specs.Leaving.{disassociated, disassociations, loses_target}
use Rattle.apart_laws.proofs.Filtered.{any_mapped, others_changed}
use Rattle.apart_laws.proofs.Steps.{AreOwn, ServeStill, Spares, leads_own, others, with_floatings}
use Rattle.row_laws.specs.OwnPorts.{freed_if, with_floatings_freed}
use Rattle.std.proofs.Common.{Bool, List, None, Option, Some, [], ap, arith, cond, false, if◌then◌else◌, map, not, refl, slice_get, subst, suc, sym, true, ℕ, ◌∙◌, ◌∷◌, ◌≡◌, ◌≤◌}
use Rattle.std.specs.List.{list_any}
use Rattle.std.specs.Prelude.{filter, ◌&&◌, ◌||◌}
use Rattle.std.specs.Str.{bytes_eq}

-- rows that are put one by one, row by row
abbrev all_put : List FloatingRow → List FloatingRow → List FloatingRow
all_put [] xs = xs
all_put (f ∷ fs) xs = all_put fs (put_in (λ g. g.id) f xs)

floatings_put : (rows : RowLists) (fs : List FloatingRow) → made rows (map (λ f. Put (Floating f)) fs) ≡ record rows { floatings = all_put fs rows.floatings }
floatings_put rows [] = refl
floatings_put rows (f ∷ fs) = floatings_put (record rows { floatings = put_in (λ (g : FloatingRow). g.id) f rows.floatings }) fs

abbrev put_all : List FloatingRow → FloatingRow → FloatingRow
put_all [] q = q
put_all (f ∷ fs) q = put_all fs (if ident_eq f.id q.id then f else q)

map_twice : {R S T : Type 0} (f : R → S) (g : S → T) (xs : List R) → map g (map f xs) ≡ map (λ x. g (f x)) xs
map_twice f g [] = refl
map_twice f g (x ∷ xs) = ap (λ ys. g (f x) ∷ ys) (map_twice f g xs)

map_same : {R : Type 0} (xs : List R) → xs ≡ map (λ x. x) xs
map_same [] = refl
map_same (x ∷ xs) = ap (λ ys. x ∷ ys) (map_same xs)

map_agree : {R S : Type 0} (f g : R → S) (xs : List R) → Each (λ x. f x ≡ g x) xs → map f xs ≡ map g xs
map_agree f g [] all = refl
map_agree f g (x ∷ xs) all = λ j. all 0 x refl j ∷ map_agree f g xs (λ k y at. all (suc k) y at) j

put_each : (fs xs : List FloatingRow) → all_put fs xs ≡ map (put_all fs) xs
put_each [] xs = map_same xs
put_each (f ∷ fs) xs = put_each fs (put_in (λ g. g.id) f xs) ∙ map_twice (λ q. if ident_eq f.id q.id then f else q) (put_all fs) xs

one_of : (b : Bool) (x y : FloatingRow) → x ≡ y → cond b x y ≡ x
one_of true x y same = refl
one_of false x y same = sym same

-- of rows that are disassociated and put, the one with the same id is there in the end
put_is : (q : FloatingRow) (ys : List FloatingRow) (r : FloatingRow) → r.id ≡ q.id → Each (λ y. ident_eq y.id q.id ≡ true → y ≡ q) ys
    → put_all (map disassociated ys) r ≡ cond (list_any (λ y. ident_eq y.id q.id) ys) (disassociated q) r
put_is q [] r same all = refl
put_is q (y ∷ ys) r same all = by (ident_eq y.id q.id) refl (λ s same_s. put_is q ys s same_s (λ k z at. all (suc k) z at))
  where
    test_is : ident_eq y.id r.id ≡ ident_eq y.id q.id
    test_is = ap (ident_eq y.id) same

    by : (b : Bool) → ident_eq y.id q.id ≡ b
        → ((s : FloatingRow) → s.id ≡ q.id → put_all (map disassociated ys) s ≡ cond (list_any (λ z. ident_eq z.id q.id) ys) (disassociated q) s)
        → put_all (map disassociated ys) (if ident_eq y.id r.id then disassociated y else r) ≡ cond (b || list_any (λ z. ident_eq z.id q.id) ys) (disassociated q) r
    by true is rest =
        let it : y ≡ q = all 0 y refl is in
        (λ j. put_all (map disassociated ys) (if (test_is ∙ is) j then disassociated (it j) else r))
        ∙ (rest (disassociated q) refl ∙ one_of (list_any (λ z. ident_eq z.id q.id) ys) (disassociated q) (disassociated q) refl)
    by false is rest = (λ j. put_all (map disassociated ys) (if (test_is ∙ is) j then disassociated y else r)) ∙ rest r same

module _ (rows : RowLists) (once : (i : Ident) → times (λ (f : FloatingRow). f.id) i rows.floatings ≤ 1) (port : Ident) (kept : List Fixed) where
  abbrev pub leaves : FloatingRow → Bool
  leaves f = is_some_so (loses_target port kept) f.target

  it_is : (k : ℕ) (q : FloatingRow) → slice_get rows.floatings k ≡ Some q → (j : ℕ) (y : FloatingRow) → slice_get rows.floatings j ≡ Some y → ident_eq y.id q.id ≡ true → y ≡ q
  it_is k q at j y at_y same = one_row (λ f. ident_eq q.id f.id) rows.floatings (once q.id) j k y q at_y at (ident_sym y.id q.id same) (ident_itself q.id)

  named_there : (k : ℕ) (q : FloatingRow) → slice_get rows.floatings k ≡ Some q → list_any (λ y. ident_eq y.id q.id) (filter leaves rows.floatings) ≡ leaves q
  named_there k q at = by (leaves q) refl
    where
      by : (b : Bool) → leaves q ≡ b → list_any (λ y. ident_eq y.id q.id) (filter leaves rows.floatings) ≡ b
      by true is = filter-any leaves (λ y. ident_eq y.id q.id) rows.floatings k q at is (ident_itself q.id)
      by false is = any-none (λ y. ident_eq y.id q.id) (filter leaves rows.floatings) (λ j y at_y.
          let here = at_filter leaves rows.floatings j y at_y in
          by_test (ident_eq y.id q.id) (ident_eq y.id q.id ≡ false)
          (λ same. false_true _ (sym is ∙ (ap leaves (sym (it_is k q at here.0 y here.1 same)) ∙ here.2)))
          (λ other. other))

  as_freed : (b : Bool) (q : FloatingRow) → cond b (disassociated q) q ≡ freed_if b q
  as_freed true q = refl
  as_freed false q = refl

  pub disassociated_rows : made rows (disassociations rows.floatings port kept) ≡ with_floatings_freed leaves rows
  disassociated_rows =
      let fs : List FloatingRow = filter leaves rows.floatings in
      ap (made rows) (sym (map_twice disassociated (λ f. Put (Floating f)) fs))
      ∙ (floatings_put rows (map disassociated fs)
      ∙ ap (λ floatings. record rows { floatings = floatings }) (put_each (map disassociated fs) rows.floatings
      ∙ map_agree (put_all (map disassociated fs)) (λ f. freed_if (leaves f) f) rows.floatings (λ k q at.
      put_is q fs q refl (λ j y at_y same. let here = at_filter leaves rows.floatings j y at_y in it_is k q at here.0 y here.1 same)
      ∙ ((λ j. cond (named_there k q at j) (disassociated q) q) ∙ as_freed (leaves q) q))))

-- floating addresses that are disassociated have their owners and their ports
pub owner_kept : (b : Bool) (f : FloatingRow) → (freed_if b f).project ≡ f.project
owner_kept true f = refl
owner_kept false f = refl

own_port_kept : (b : Bool) (f : FloatingRow) → (freed_if b f).own_port ≡ f.own_port
own_port_kept true f = refl
own_port_kept false f = refl

pub serve_still : (project : List ℕ) (rows : RowLists) (test : FloatingRow → Bool) → ServeStill project rows (with_floatings_freed test rows)
serve_still project rows test k p at =
    ap (λ b. not (bytes_eq p.project project || (list_any (λ (r : RouterRow). bytes_eq r.project project && is_some_so (λ (g : Gateway). ident_eq g.port p.id) r.gateway) rows.routers || b)))
    (any_mapped (λ (f : FloatingRow). bytes_eq f.project project && ident_eq f.own_port p.id) (λ f. freed_if (test f) f) rows.floatings
    (λ k f at. λ j. bytes_eq (owner_kept (test f) f j) project && ident_eq (own_port_kept (test f) f j) p.id))

-- own ones that are disassociated
pub freed_spares : (project : List ℕ) (rows : RowLists) (test : FloatingRow → Bool) → Each (λ (f : FloatingRow). test f ≡ true → bytes_eq f.project project ≡ true) rows.floatings
    → Spares project rows (with_floatings_freed test rows)
freed_spares project rows test own = with_floatings project rows (map (λ f. freed_if (test f) f) rows.floatings)
    (others_changed (others (λ (f : FloatingRow). f.project) project) (λ f. freed_if (test f) f) rows.floatings (λ k f at. (
      ap (λ name. not (bytes_eq name project)) (owner_kept (test f) f),
      (λ passes. by_test (test f) (freed_if (test f) f ≡ f)
          (λ is. false_true _ (sym (ap not (own k f at is)) ∙ passes))
          (λ fails. ap (λ b. freed_if b f) fails)),
    )))
    (serve_still project rows test)

-- who leads to a port that isn't kept leads to the port
pub leaves_port : (port : Ident) (kept : List Fixed) (o : Option Target) → is_some_so (loses_target port kept) o ≡ true → is_some_so (λ (t : Target). ident_eq port t.port) o ≡ true
leaves_port port kept None h = h
leaves_port port kept (Some t) h = (and_both (ident_eq port t.port) _ h).0

-- those that lead to an own port are own; of rows with the same floating addresses
pub disassociated_spares : (project : List ℕ) (old rows : RowLists) → IsConsistent old → (p : PortRow) → AreOwn (λ (q : PortRow). q.id) (λ (q : PortRow). q.project) project p.id old.ports
    → old.floatings ≡ rows.floatings → (kept : List Fixed) → Spares project rows (made rows (disassociations rows.floatings p.id kept))
disassociated_spares project old rows c p are same kept =
    subst (Spares project rows) (sym (disassociated_rows rows (λ i. subst (λ fs. times (λ (f : FloatingRow). f.id) i fs ≤ 1) same (omega (arith, c.numbered.ids i))) p.id kept))
    (freed_spares project rows (λ f. is_some_so (loses_target p.id kept) f.target)
    (subst (λ fs. Each (λ (f : FloatingRow). is_some_so (loses_target p.id kept) f.target ≡ true → bytes_eq f.project project ≡ true) fs) same
    (λ k f at lost. leads_own old c project p are k f at (leaves_port p.id kept f.target lost))))
