use Rattle.std.proofs.Common.{◌≡◌, drop}
use Rattle.std.specs.Prelude.{find}
use Rattle.std.specs.List.{filter_map}
use Rattle.net_addr.specs.Addresses.{addr_eq}
use Rattle.net_addr.specs.declared.address.Addr.TheVariants.{V4}
use Rattle.api_types.specs.declared.floating.FloatingRow.{FloatingRow}
use Rattle.api_types.specs.RouterRows.{float_by}
use Rattle.api_types.specs.RouterViews.{Float}
use Rattle.plane_rows.proofs.routers.fixed_behind.Given as goal

-- none so far is sought
abbrev pub invariant-loop-row : goal.invariant-loop-row
invariant-loop-row l =
    find (λ (f : Float). addr_eq (V4 f.floating) l.floating) (filter_map (λ (f : FloatingRow). float_by l.router.id f f.target) (drop l.row-index l.row-items))
    ≡ find (λ (f : Float). addr_eq (V4 f.floating) l.floating) (filter_map (λ (f : FloatingRow). float_by l.router.id f f.target) l.rows.floatings)
