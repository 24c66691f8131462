-- MAC addresses, which are numbers of 48 bits (IEEE 802, EUI-48).
use Rattle.std.specs.Prelude.{◌/◌, ◌%◌, ◌^◌, ◌==◌, ◌&&◌, nat_lt, Bool}
use Rattle.net_addr.specs.Words.{MacAddress}

-- whether it can be the address of one interface: it isn't zero, and its first byte is even
unfoldable pub is_unicast : MacAddress → Bool
is_unicast mac = nat_lt 0 mac && ((mac / 2 ^ 40) % 2 == 0)
