-- Ports that name a group, and what they give to it.
use Rattle.std.specs.Prelude.{Bool, List, ◌++◌, map}
use Rattle.net_addr.specs.Ordered.{whole_prefix}
use Rattle.net_addr.specs.Prefixes.{Prefix}
use Rattle.api_types.specs.Ident.{Ident}
use Rattle.api_types.specs.Members.{names_group}
use Rattle.api_types.specs.declared.port.Fixed.{Fixed}
use Rattle.api_types.specs.declared.port.Pair.{Pair}
use Rattle.api_types.specs.declared.port.PortRow.{PortRow}

abbrev pub names : Ident → PortRow → Bool
names g p = names_group g p.groups

abbrev pub given_by : PortRow → List Prefix
given_by p =
    map (λ (f : Fixed). whole_prefix f.address) p.fixed ++ map (λ (x : Pair). x.prefix) p.pairs
