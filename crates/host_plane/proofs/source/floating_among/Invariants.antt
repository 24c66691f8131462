use Rattle.std.proofs.Common.{◌≡◌, drop}
use Rattle.std.specs.Prelude.{find}
use Rattle.net_addr.specs.Addresses.{addr_eq}
use Rattle.net_addr.specs.declared.address.Addr.TheVariants.{V4}
use Rattle.api_types.specs.RouterViews.{Float}
use Rattle.plane_types.specs.TableStep.{floats_at_router}
use Rattle.host_plane.proofs.source.floating_among.Given as goal

-- none so far is sought
abbrev pub invariant-loop-row : goal.invariant-loop-row
invariant-loop-row l =
    find (λ (f : Float). addr_eq (V4 f.fixed) l.fixed) (floats_at_router l.router (drop l.row-index l.rows))
    ≡ find (λ (f : Float). addr_eq (V4 f.fixed) l.fixed) (floats_at_router l.router l.rows)
