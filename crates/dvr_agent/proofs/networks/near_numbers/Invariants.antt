use Rattle.std.proofs.Common.{◌≡◌, drop}
use Rattle.std.specs.HashMap.{get}
use Rattle.api_types.specs.Ident.{Ident}
use Rattle.api_types.specs.Table.{ident_eq}
use Rattle.dvr_agent.specs.Near.{near_number}
use Rattle.dvr_agent.proofs.NumberLemmas.{with_ports}
use Rattle.dvr_agent.proofs.networks.near_numbers.Given as goal

-- the map with the ports that are left has all numbers
abbrev pub invariant-loop-port : goal.invariant-loop-port
invariant-loop-port l = (n : Ident) → with_ports l.rows n (get ident_eq l.numbers n) (drop l.port-index l.port-items) ≡ near_number l.rows n
