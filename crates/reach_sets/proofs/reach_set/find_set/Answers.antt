use Rattle.std.proofs.Common.{refl}
use Rattle.reach_sets.proofs.PieceLemmas.{echo-decides}
use Rattle.reach_sets.specs.TwoPorts.{two_ports}
use Rattle.reach_sets.proofs.reach_set.find_set.Goals as goal

pub returns : goal.returns
returns c = record {
  tcp = c.in_ok-tcp.ensures;
  udp = c.in_ok-udp.ensures;
  echo = echo-decides c.args.rows.now (two_ports c.args.pair.now) c.in_ok-echo.echo (c.in_ok-echo.ensures 0 (refl, refl));
  other = c.in_ok-other.ensures;
}
