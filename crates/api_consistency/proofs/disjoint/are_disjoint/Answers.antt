use Rattle.std.proofs.Common.{◌≡◌, true, subst, flat_map}
use Rattle.std.specs.List.{IsDistinct}
use Rattle.std.proofs.lemmas.Result.{IfOk-weaker}
use Rattle.net_addr.specs.Prefixes.{IsPrefix}
use Rattle.api_types.specs.Lists.{Each}
use Rattle.api_types.specs.RowLists.{RowLists}
use Rattle.api_types.specs.Consistent.Disjoint.{AreDisjoint}
use Rattle.api_types.specs.Consistent.Numbered.{AreNumbered}
use Rattle.api_types.specs.declared.subnet.SubnetRow.{SubnetRow}
use Rattle.api_consistency.specs.Stretches.{clash}
use Rattle.api_consistency.specs.Keys.{legs_of}
use Rattle.api_consistency.proofs.DisjointLemmas.{subnets_apart, ports_apart}
use Rattle.api_consistency.proofs.disjoint.are_disjoint.Goals as goal

pub returns : goal.returns
returns c =
    let rows = c.args.known.now in
    let prefixes : Each (λ (s : SubnetRow). IsPrefix s.prefix) rows.subnets =
    subst (λ (r : RowLists). Each (λ (s : SubnetRow). IsPrefix s.prefix) r.subnets) c.rows.ensures c.are_typed.ensures.prefixes in
    IfOk-weaker c.are_reached_apart.result (λ b. b ≡ true → IsDistinct clash (flat_map (legs_of rows.subnets) rows.ports))
    (λ b. b ≡ true → AreNumbered rows → AreDisjoint rows.subnets rows.ports rows.routers)
    (λ b apart h numbered. record {
      in_network = subnets_apart rows numbered prefixes (c.in_ok-are_subnets_apart.ensures c.if-not-branch.false);
      at_router = ports_apart rows numbered prefixes c.subnets-own_ids.ensures.own_ids (apart h);
    }) c.are_reached_apart.ensures
