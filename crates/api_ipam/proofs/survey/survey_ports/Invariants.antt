use Rattle.std.proofs.Common.{◌≡◌, ◌+◌, ◌<◌, ◌^◌, ℕ, drop}
use Rattle.std.specs.Prelude.{◌||◌}
use Rattle.net_addr.specs.declared.address.Addr.{Addr}
use Rattle.api_types.specs.HeldAddresses.{is_address_held, is_mac_held}
use Rattle.api_ipam.specs.FixedChoice.{is_in}
use Rattle.api_ipam.specs.MacChoice.{first_mac}
use Rattle.api_ipam.proofs.LeastLemmas.{sought}
use Rattle.api_ipam.proofs.survey.survey_ports.Given as goal

-- the addresses so far, and those of the ports that are left, are all; all MAC addresses are held
-- that were passed by, and no port so far has one after the greatest
abbrev pub invariant-loop-shared : goal.invariant-loop-shared
invariant-loop-shared l = record {
  all : (x : Addr) → (is_in l.held x || is_address_held (drop l.shared-index l.ports) l.network x) ≡ is_address_held l.ports l.network x;
  same : sought l.ports l.network (first_mac + 2 ^ 24) l.next ≡ sought l.ports l.network (first_mac + 2 ^ 24) first_mac;
  none : (m : ℕ) → l.greatest < m → is_mac_held (drop l.shared-index l.ports) l.network m ≡ is_mac_held l.ports l.network m;
}
