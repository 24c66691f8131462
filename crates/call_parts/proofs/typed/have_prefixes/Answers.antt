use Rattle.std.proofs.Common.{arith, subst}
use Rattle.std.proofs.lemmas.List.{take_all}
use Rattle.net_addr.specs.Prefixes.{IsPrefix}
use Rattle.api_types.specs.Lists.{Each}
use Rattle.api_types.specs.declared.subnet.SubnetRow.{SubnetRow}
use Rattle.call_parts.proofs.TypedRows.{one_more}
use Rattle.call_parts.proofs.typed.have_prefixes.Goals as goal

pub loop-subnet-preserved : goal.loop-subnet-preserved
loop-subnet-preserved c =
    one_more (λ (s : SubnetRow). IsPrefix s.prefix) c.args.subnets.now c.loop-subnet.subnet-index c.subnet-item.result c.loop-subnet-test.true c.subnet-item.is
    (subst (λ (s : SubnetRow). IsPrefix s.prefix) c.deref.ensures c.is_prefix.ensures) c.loop-subnet.invariant

pub returns : goal.returns
returns c =
    subst (Each (λ (s : SubnetRow). IsPrefix s.prefix)) (take_all c.loop-subnet.subnet-index c.args.subnets.now (omega (arith, c.loop-subnet-test.false))) c.loop-subnet.invariant
