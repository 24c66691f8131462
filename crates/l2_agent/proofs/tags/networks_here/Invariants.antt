use Rattle.std.proofs.Common.{◌≡◌, drop}
use Rattle.std.specs.Prelude.{◌&&◌, ◌||◌}
use Rattle.std.specs.HashSet.{contains}
use Rattle.std.specs.List.{list_any}
use Rattle.api_types.specs.Ident.{Ident}
use Rattle.api_types.specs.Live.{is_here}
use Rattle.api_types.specs.Table.{ident_eq}
use Rattle.api_types.specs.declared.port.PortRow.{PortRow}
use Rattle.l2_agent.proofs.tags.networks_here.Given as goal

-- those so far, and those of the ports that are left, are all
abbrev pub invariant-loop-port : goal.invariant-loop-port
invariant-loop-port l =
    (n : Ident) → (contains ident_eq l.networks n || list_any (λ (p : PortRow). ident_eq n p.network && is_here l.rows l.host p) (drop l.port-index l.port-items))
    ≡ list_any (λ (p : PortRow). ident_eq n p.network && is_here l.rows l.host p) l.rows.ports
