-- Each fixed address is a host address of its subnet.
use Rattle.std.specs.Prelude.{Bool, List}
use Rattle.std.specs.List.{list_all}
use Rattle.api_types.specs.Lists.{Pass, stands_so}
use Rattle.old_rows.specs.Prefixes4.{is_host_of}
use Rattle.old_rows.specs.declared.subnet.OldSubnet.{OldSubnet}
use Rattle.old_rows.specs.declared.port.OldPort.{OldPort}
use Rattle.old_rows.specs.declared.port.Fixed4.{Fixed4}

abbrev pub is_host_in : List OldSubnet → Fixed4 → Bool
is_host_in subnets f = stands_so (λ s. s.id) f.subnet (λ s. is_host_of s.prefix f.address) subnets

pub record AreHosts (subnets : List OldSubnet) (ports : List OldPort) : Type 0 where
  pub addresses : Pass (λ p. list_all (is_host_in subnets) p.fixed) ports
