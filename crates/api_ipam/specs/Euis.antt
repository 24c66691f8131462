-- Subnets in which addresses are made of MAC addresses have 64 bits of version 6.
use Rattle.api_types.specs.Consistent.InForm.{is_eui}
use Rattle.api_types.specs.declared.subnet.SubnetRow.{SubnetRow}
use Rattle.net_addr.specs.Addresses.{is_v4}
use Rattle.std.specs.Prelude.{Bool, not, ◌&&◌, ◌==◌, ◌||◌}

abbrev pub fits_eui : SubnetRow → Bool
fits_eui s = not (is_eui s) || (not (is_v4 s.prefix.base) && (s.prefix.len == 64))
