-- Entries stay where edits take no tap and no router out.
use Rattle.std.proofs.Common.{◌≡◌, ◌++◌, ◌∙◌, ℕ, zero, suc, List, [], ◌∷◌, Bool, true, false, cond, Option, Some, None, refl, ap, sym, subst, drop, take}
use Rattle.std.specs.Prelude.{◌||◌, is_some}
use Rattle.std.specs.List.{filter, list_any}
use Rattle.api_types.specs.Ident.{Ident}
use Rattle.api_types.specs.Lists.{Each, Pass}
use Rattle.api_types.specs.Table.{ident_eq}
use Rattle.api_types.proofs.ListLemmas.{false_true, or_true}
use Rattle.plane_types.specs.Attached.{is_attached}
use Rattle.plane_types.specs.Edits.{with_edit, with_edits, with_put}
use Rattle.plane_types.specs.declared.delta.Edit.{Edit}
use Rattle.plane_types.specs.declared.entry.Entry.{Entry}
use Rattle.plane_types.specs.declared.entry.Entry.TheVariants.{Flow, Snat}
use Rattle.plane_types.specs.declared.lists.TableLists.{TableLists}
use Rattle.plane_types.specs.declared.table.RouterTable.{RouterTable}
use Rattle.plane_types.specs.declared.table.TapRow.{TapRow}

module _ {R : Type 0} (test : R → Bool) where
  -- a row more
  any_put : (row : R) (rows : List R) (place : ℕ) → list_any test rows ≡ true → list_any test (take place rows ++ row ∷ drop place rows) ≡ true
  any_put row [] place h = false_true _ h
  any_put row (r ∷ rows) zero h = ap (λ b. test row || b) h ∙ or_true (test row)
  any_put row (r ∷ rows) (suc place) h = go (test r) h (any_put row rows place)
    where
      go : (b : Bool) → b || list_any test rows ≡ true → (list_any test rows ≡ true → list_any test (take place rows ++ row ∷ drop place rows) ≡ true) → b || list_any test (take place rows ++ row ∷ drop place rows) ≡ true
      go true h rest = refl
      go false h rest = rest h

  any_with : (rows : List R) (place : ℕ) (put : Option R) → list_any test rows ≡ true → list_any test (with_put rows place put) ≡ true
  any_with rows place None h = h
  any_with rows place (Some row) h = any_put row rows place h

  -- edits that take none out
  pub any_after : (es : List (Edit R)) (rows : List R) → list_any (λ (e : Edit R). e.out) es ≡ false → list_any test rows ≡ true → list_any test (with_edits rows es) ≡ true
  any_after [] rows none h = h
  any_after (e ∷ es) rows none h = go e.out refl none (any_after es (with_edit rows e))
    where
      go : (b : Bool) → e.out ≡ b → b || list_any (λ (e : Edit R). e.out) es ≡ false
          → (list_any (λ (e : Edit R). e.out) es ≡ false → list_any test (with_edit rows e) ≡ true → list_any test (with_edits (with_edit rows e) es) ≡ true) → list_any test (with_edits (with_edit rows e) es) ≡ true
      go true is out rest = false_true _ (sym out)
      go false is out rest =
          let same : with_edit rows e ≡ with_put rows e.place e.put = ap (λ b. with_put (cond b (take e.place rows ++ drop (suc e.place) rows) rows) e.place e.put) is in
          rest out (ap (list_any test) same ∙ any_with rows e.place e.put h)

-- what passes a test is kept by it
pub all_kept : {X : Type 0} (test : X → Bool) (xs : List X) → Pass test xs → filter test xs ≡ xs
all_kept test [] h = refl
all_kept test (x ∷ xs) h = ap (λ b. cond b (x ∷ filter test xs) (filter test xs)) (h 0 x refl) ∙ ap (λ rest. x ∷ rest) (all_kept test xs (λ k y at. h (suc k) y at))

-- an entry's tap or router is there still
still_attached : (old new : TableLists) (taps : List (Edit TapRow)) (routers : List (Edit RouterTable)) → list_any (λ (e : Edit TapRow). e.out) taps ≡ false → list_any (λ (e : Edit RouterTable). e.out) routers ≡ false
    → with_edits old.taps taps ≡ new.taps → with_edits old.routers routers ≡ new.routers → (e : Entry) → is_attached old e ≡ true → is_attached new e ≡ true
still_attached old new taps routers none_out none_gone taps_are routers_are (Flow port d k) h =
    ap (list_any (λ (r : TapRow). ident_eq port r.port)) (sym taps_are) ∙ any_after (λ (r : TapRow). ident_eq port r.port) taps old.taps none_out h
still_attached old new taps routers none_out none_gone taps_are routers_are (Snat router k o p) h =
    ap (list_any (λ (r : RouterTable). ident_eq router r.router)) (sym routers_are) ∙ any_after (λ (r : RouterTable). ident_eq router r.router) routers old.routers none_gone h

pub entries_stay : (old new : TableLists) (taps : List (Edit TapRow)) (routers : List (Edit RouterTable)) (entries : List Entry)
    → list_any (λ (e : Edit TapRow). e.out) taps || list_any (λ (e : Edit RouterTable). e.out) routers ≡ false
    → with_edits old.taps taps ≡ new.taps → with_edits old.routers routers ≡ new.routers → Pass (is_attached old) entries → filter (is_attached new) entries ≡ entries
entries_stay old new taps routers entries none taps_are routers_are h =
    let both = neither _ _ none in
    all_kept (is_attached new) entries (λ k e at. still_attached old new taps routers both.0 both.1 taps_are routers_are e (h k e at))
  where
    neither : (a b : Bool) → a || b ≡ false → (a ≡ false) × (b ≡ false)
    neither true b h = false_true _ (sym h)
    neither false b h = (refl, h)
