-- No MAC and no address is held twice in a network.
use Rattle.std.specs.Prelude.{ℕ, ◌≤◌, ◌==◌, ◌&&◌, cond, Bool, List, sum_by, count_by}
use Rattle.net_addr.specs.Addresses.{addr_eq}
use Rattle.net_addr.specs.declared.address.Addr.{Addr}
use Rattle.api_types.specs.Ident.{Ident}
use Rattle.api_types.specs.Table.{ident_eq}
use Rattle.api_types.specs.declared.port.PortRow.{PortRow}
use Rattle.api_types.specs.declared.port.Fixed.{Fixed}

abbrev pub has_mac : Ident → ℕ → PortRow → Bool
has_mac network mac p = ident_eq network p.network && (p.mac == mac)

-- how often a port holds an address of a network
abbrev pub holds_times : Ident → Addr → PortRow → ℕ
holds_times network x p =
    cond (ident_eq network p.network) (count_by (λ (f : Fixed). addr_eq f.address x) p.fixed) 0

pub record AreHeldOnce (ports : List PortRow) : Type 0 where
  pub macs : (network : Ident) (mac : ℕ) → count_by (has_mac network mac) ports ≤ 1
  pub addresses : (network : Ident) (x : Addr) → sum_by (holds_times network x) ports ≤ 1
