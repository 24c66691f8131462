-- No MAC and no address is held twice in a network.
use Rattle.std.specs.Prelude.{ℕ, ◌≤◌, ◌==◌, ◌&&◌, cond, Bool, List, sum_by, count_by}
use Rattle.net_addr.specs.Words.{MacAddress}
use Rattle.api_types.specs.Ident.{Ident}
use Rattle.api_types.specs.Table.{ident_eq}
use Rattle.old_rows.specs.declared.port.OldPort.{OldPort}
use Rattle.old_rows.specs.declared.port.Fixed4.{Fixed4}

abbrev pub has_mac : Ident → MacAddress → OldPort → Bool
has_mac network mac p = ident_eq network p.network && (p.mac == mac)

-- how often a port holds an address of a network
abbrev pub holds_times : Ident → ℕ → OldPort → ℕ
holds_times network x p =
    cond (ident_eq network p.network) (count_by (λ (f : Fixed4). f.address == x) p.fixed) 0

pub record AreHeldOnce (ports : List OldPort) : Type 0 where
  pub macs : (network : Ident) (mac : MacAddress) → count_by (has_mac network mac) ports ≤ 1
  pub addresses : (network : Ident) (x : ℕ) → sum_by (holds_times network x) ports ≤ 1
