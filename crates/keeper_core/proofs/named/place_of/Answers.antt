use Rattle.std.proofs.Common.{rules, sym, arith}
use Rattle.std.proofs.lemmas.List.Sums.{position_or_len_is}
use Rattle.keeper_core.specs.Named.{has_name}
use Rattle.keeper_core.proofs.NamedLemmas.{none_pass}
use Rattle.keeper_core.proofs.named.place_of.Goals as goal

pub returns-then-eq : goal.returns-then-eq
returns-then-eq g c =
    sym (position_or_len_is (has_name c.args.name.now) c.args.items.now c.loop-i.i c.index-items-i.result (search rules) (λ k below. c.loop-i.invariant k c.index-items-i.result below) (λ _. search rules))

pub returns : goal.returns
returns g c = sym (none_pass (has_name c.args.name.now) c.args.items.now (λ k d below. c.loop-i.invariant k d (omega (below, c.loop-i-test.false, arith))))
