-- The best route, one row more at the front.
use Rattle.std.proofs.Common.{◌≡◌, ◌∙◌, ℕ, suc, ◌-◌, ◌<◌, List, ◌∷◌, length, get_or, drop, drop-cons, Bool, true, false, Some, None, refl, ap, sym, arith}
use Rattle.std.specs.Prelude.{◌&&◌, Option, if◌then◌else◌}
use Rattle.std.specs.List.{cons_option}
use Rattle.std.proofs.Math.Seq.{drop-length}
use Rattle.net_addr.specs.Prefixes.{contains}
use Rattle.net_addr.specs.declared.address.Addr.{Addr}
use Rattle.api_types.specs.Ident.{Ident}
use Rattle.api_types.specs.Table.{ident_eq}
use Rattle.plane_types.specs.Routing.{best_way, better}
use Rattle.api_types.specs.RouterViews.{Way}
use Rattle.plane_types.specs.TableStep.{way_at, ways_at}
use Rattle.plane_types.specs.declared.table.RouteRow.{RouteRow}

module _ (router : Ident) (x : Addr) where
  -- the best of a row and of those after it
  abbrev pub best_with : RouteRow → Option Way → Option Way
  best_with row best = if ident_eq router row.router && contains row.prefix x then Some (better (way_at row) best) else best

  with_row : (row : RouteRow) (rest : List RouteRow) → best_with row (best_way x (ways_at router rest)) ≡ best_way x (ways_at router (row ∷ rest))
  unfolding best_way
  with_row row rest = go (ident_eq router row.router)
    where
      go : (b : Bool) → (if b && contains row.prefix x then Some (better (way_at row) (best_way x (ways_at router rest))) else best_way x (ways_at router rest)) ≡ best_way x (cons_option (if b then Some (way_at row) else None) (ways_at router rest))
      go true = refl
      go false = refl

  pub best_next : (rows : List RouteRow) (left : ℕ) (row : RouteRow) (best best2 : Option Way) → 0 < left → left - 1 < length rows → row ≡ get_or rows (left - 1) row → best ≡ best_way x (ways_at router (drop left rows)) → best2 ≡ best_with row best → best2 ≡ best_way x (ways_at router (drop (left - 1) rows))
  best_next rows left row best best2 some below is best_is best2_is =
      let next : suc (left - 1) ≡ left = omega arith in
      best2_is ∙ ap (best_with row) best_is ∙ with_row row (drop left rows)
      ∙ sym (ap (λ ws. best_way x (ways_at router ws)) (drop-cons rows (left - 1) row below ∙ ap (λ y. y ∷ drop (suc (left - 1)) rows) (sym is) ∙ ap (λ n. row ∷ drop n rows) next))

  -- none of no rows
  pub best_of_none : (rows : List RouteRow) → None ≡ best_way x (ways_at router (drop (length rows) rows))
  unfolding best_way
  best_of_none rows = sym (ap (λ ws. best_way x (ways_at router ws)) (drop-length rows))
