use Rattle.std.proofs.Common.{◌≡◌, drop}
use Rattle.std.specs.HashSet.{contains}
use Rattle.std.specs.List.{list_any}
use Rattle.api_types.specs.Table.{ident_eq}
use Rattle.api_types.specs.declared.port.Fixed.{Fixed}
use Rattle.touched_rows.specs.TouchedNumbers.{holds_in_any}
use Rattle.touched_rows.proofs.routers.holds_in_any.Given as goal

-- none of those so far is in one
abbrev pub invariant-loop-fixed : goal.invariant-loop-fixed
invariant-loop-fixed l =
    list_any (λ (f : Fixed). contains ident_eq l.subnets f.subnet) (drop l.fixed-index l.fixed-items) ≡ holds_in_any (contains ident_eq l.subnets) l.port
