-- A port that can't be live isn't, and one that sees its network alike is as live as before.
use Rattle.std.proofs.Common.{◌≡◌, ◌∙◌, Bool, List, true, false, ap, refl, sym}
use Rattle.std.specs.Prelude.{◌&&◌}
use Rattle.api_types.specs.Consistent.Carried.{is_bound}
use Rattle.api_types.specs.Live.{is_live, network_up}
use Rattle.api_types.specs.RowLists.{RowLists}
use Rattle.api_types.specs.RowsWith.{network_with}
use Rattle.api_types.specs.declared.port.PortRow.{PortRow}
use Rattle.api_types.proofs.ListLemmas.{false_true}
use Rattle.api_types.proofs.NameLemmas.{by_test}
use Rattle.plane_types.specs.declared.table.TagRow.{TagRow}
use Rattle.touched_rows.specs.CanLive.{can_live}
use Rattle.touched_rows.specs.SeesAlike.{SeesAlike}

pub not_live : (rows : RowLists) (p : PortRow) → can_live p ≡ false → is_live rows p ≡ false
unfolding is_live
not_live rows p off = go p.up (is_bound p.vif) off
  where
    go : (a b : Bool) → (a && b) ≡ false
        → (a && b && network_up (network_with rows p.network)) ≡ false
    go false b h = refl
    go true false h = refl
    go true true h = false_true _ (sym h)

pub live_can : (rows : RowLists) (p : PortRow) → is_live rows p ≡ true → can_live p ≡ true
live_can rows p live =
    by_test (can_live p) (can_live p ≡ true) (λ can. can)
    (λ off. false_true _ (sym (not_live rows p off) ∙ live))

module _ (before after : RowLists) (old new : List TagRow) (p : PortRow)
    (sees : SeesAlike before after old new p) where
  pub live_seen : is_live before p ≡ is_live after p
  unfolding is_live
  live_seen =
      by_test (can_live p) (is_live before p ≡ is_live after p)
      (λ can. ap (λ b. p.up && is_bound p.vif && b) (sees can).up)
      (λ off. not_live before p off ∙ sym (not_live after p off))
