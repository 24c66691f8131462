use Rattle.std.proofs.Common.{◌≡◌, drop}
use Rattle.std.specs.Prelude.{find, ◌&&◌}
use Rattle.net_addr.specs.Addresses.{is_v4}
use Rattle.api_types.specs.Owners.{holds_in as held_in}
use Rattle.api_types.specs.declared.port.Fixed.{Fixed}
use Rattle.plane_rows.proofs.leases.fixed_leased.Given as goal

-- none so far is in a subnet of the DHCP port
abbrev pub invariant-loop-fixed : goal.invariant-loop-fixed
invariant-loop-fixed l = find (λ (f : Fixed). is_v4 f.address && held_in f.subnet l.dhcp) (drop l.fixed-index l.fixed-items) ≡ find (λ (f : Fixed). is_v4 f.address && held_in f.subnet l.dhcp) l.port.fixed
