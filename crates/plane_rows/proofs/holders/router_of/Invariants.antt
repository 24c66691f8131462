use Rattle.std.proofs.Common.{◌≡◌, drop}
use Rattle.std.specs.Prelude.{find}
use Rattle.api_types.specs.Owners.{device_is as device_of}
use Rattle.api_types.specs.declared.router.RouterRow.{RouterRow}
use Rattle.plane_rows.proofs.holders.router_of.Given as goal

-- none so far is named by the device
abbrev pub invariant-loop-router : goal.invariant-loop-router
invariant-loop-router l =
    find (λ (r : RouterRow). device_of l.port.device r.id) (drop l.router-index l.router-items) ≡ find (λ (r : RouterRow). device_of l.port.device r.id) l.rows.routers
