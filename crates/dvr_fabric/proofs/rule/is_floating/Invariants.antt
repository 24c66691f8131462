use Rattle.std.proofs.Common.{◌≡◌, drop}
use Rattle.std.specs.List.{list_any}
use Rattle.net_addr.specs.Addresses.{addr_eq}
use Rattle.net_addr.specs.declared.address.Addr.TheVariants.{V4}
use Rattle.api_types.specs.RouterViews.{Float}
use Rattle.plane_types.specs.TableStep.{floats_at_router}
use Rattle.dvr_fabric.proofs.rule.is_floating.Given as goal

-- none so far is of the router and has the address
abbrev pub invariant-loop-row : goal.invariant-loop-row
invariant-loop-row l =
    list_any (λ (f : Float). addr_eq (V4 f.floating) l.address) (floats_at_router l.router (drop l.row-index l.floats))
    ≡ list_any (λ (f : Float). addr_eq (V4 f.floating) l.address) (floats_at_router l.router l.floats)
