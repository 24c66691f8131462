use Rattle.std.proofs.Common.{◌≡◌, Some, take}
use Rattle.std.specs.Prelude.{if◌then◌else◌}
use Rattle.std.specs.HashMap.{get}
use Rattle.std.specs.List.{list_any}
use Rattle.api_types.specs.Ident.{Ident}
use Rattle.api_types.specs.Table.{ident_eq}
use Rattle.api_types.specs.declared.port.Fixed.{Fixed}
use Rattle.plane_rows.proofs.exits.add_port.Given as goal

-- the subnets of the addresses so far are the port's
abbrev pub invariant-loop-fixed : goal.invariant-loop-fixed
invariant-loop-fixed l =
    (n : Ident) → get ident_eq l.by_subnet n ≡ if list_any (λ (f : Fixed). ident_eq n f.subnet) (take l.fixed-index l.fixed-items) then Some l.port.id else get ident_eq l.fn.by_subnet n
