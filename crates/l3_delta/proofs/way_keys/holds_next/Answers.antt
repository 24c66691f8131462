use Rattle.std.proofs.Common.{◌∙◌, ap, subst, sym}
use Rattle.std.specs.Prelude.{option_copied}
use Rattle.api_types.specs.Table.{HaveOwnIds}
use Rattle.l3_delta.proofs.SubnetLemmas.{contains_in, held_next, subnet_id}
use Rattle.l3_delta.proofs.way_keys.holds_next.Goals as goal

pub returns-in-Some : goal.returns-in-Some
returns-in-Some c =
    let own : HaveOwnIds subnet_id c.args.rows.now.subnets = subst (HaveOwnIds subnet_id) c.subnets.ensures c.rows-own_ids.ensures.own_ids in
    c.contains.ensures.word ∙ sym (held_next c.args.rows.now own c.args.address.now c.args.fixed ∙ ap (contains_in c.args.address.now) (sym c.named_subnet.ensures ∙ ap option_copied c.in-Some.is))

pub returns-in-None : goal.returns-in-None
returns-in-None c =
    let own : HaveOwnIds subnet_id c.args.rows.now.subnets = subst (HaveOwnIds subnet_id) c.subnets.ensures c.rows-own_ids.ensures.own_ids in
    sym (held_next c.args.rows.now own c.args.address.now c.args.fixed ∙ ap (contains_in c.args.address.now) (sym c.named_subnet.ensures ∙ ap option_copied c.in-None.is))
