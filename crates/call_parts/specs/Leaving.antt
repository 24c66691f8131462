-- Floating addresses whose fixed address leaves its port are disassociated, whatever call it is
-- that takes the address.
use Rattle.call_parts.specs.Edits.{Edit, Put}
use Rattle.api_types.specs.Ident.{Ident}
use Rattle.api_types.specs.Lists.{is_some_so}
use Rattle.api_types.specs.Table.{ident_eq}
use Rattle.api_types.specs.declared.floating.FloatingRow.{FloatingRow}
use Rattle.api_types.specs.declared.floating.Target.{Target}
use Rattle.api_types.specs.declared.kind.Row.TheVariants.{Floating}
use Rattle.api_types.specs.declared.port.Fixed.{Fixed}
use Rattle.net_addr.specs.Addresses.{is_four}
use Rattle.std.specs.List.{list_any}
use Rattle.std.specs.Prelude.{Bool, List, None, filter, map, not, ◌&&◌}

-- the floating address stands for an address of the port that isn't kept
abbrev pub loses_target : Ident → List Fixed → Target → Bool
loses_target port kept t =
    ident_eq port t.port && not (list_any (λ (f : Fixed). is_four f.address t.fixed) kept)

abbrev pub disassociated : FloatingRow → FloatingRow
disassociated f = record f { target = None }

-- by the addresses that the port keeps
abbrev pub disassociations : List FloatingRow → Ident → List Fixed → List Edit
disassociations floatings port kept =
    map (λ (f : FloatingRow). Put (Floating (disassociated f)))
    (filter (λ (f : FloatingRow). is_some_so (loses_target port kept) f.target) floatings)
