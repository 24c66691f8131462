use Rattle.std.proofs.Common.{◌∙◌, ap, sym}
use Rattle.std.specs.Prelude.{nat_lt}
use Rattle.table_edits.specs.EditsAt.{among}
use Rattle.l3_delta.proofs.TouchedLemmas.{Ports, joined, router_stays}
use Rattle.l3_delta.proofs.touched.routers_touched.Goals as goal

pub returns-clause-stay : goal.returns-clause-stay
returns-clause-stay c =
    let change = c.args.change.now in
    let routers = c.args.routers.now in
    let s : Ports change.before.now change.after.now change.items.now change.ports routers =
    record { leads_on = change.leads_on; numbered = change.numbered; routed = c.requires.routers } in
    let ends = c.touched_routers.ensures in
    let ports = c.as_slice-2.result.now in
    joined c.touched_routers.result _ _ _ _ _
    (λ ks named ports_before ports_after subnets k r away at.
    router_stays change.before.now change.after.now change.items.now change.ports routers s ports change.old change.new k r at (sym (named k away) ∙ at)
    (record {
      stay = λ j off. c.in_ok-ports.ensures.named j (ap (among nat_lt j) (sym c.as_slice-2.ensures.value) ∙ off);
      alike = λ j p off there can. c.in_ok-networks.ensures p.network (c.in_ok-ports.ensures.networks j p (ap (among nat_lt j) (sym c.as_slice-2.ensures.value) ∙ off) there can);
      of_before = λ j p there port is. ports_before k j r p away at there port is;
      of_after = λ j p there port is. ports_after k j r p away (sym (named k away) ∙ at) there port is;
    })
    (subnets k r away at))
    ends.named ends.ports_before ends.ports_after ends.subnets
