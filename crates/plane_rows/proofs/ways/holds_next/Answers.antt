use Rattle.std.proofs.Common.{◌∙◌, ap, subst, sym}
use Rattle.std.specs.Prelude.{option_copied}
use Rattle.api_types.specs.Table.{HaveOwnIds}
use Rattle.plane_rows.proofs.LookLemmas.{contains_in, found_contains, subnet_id}
use Rattle.plane_rows.proofs.ways.holds_next.Goals as goal

pub returns-in-Some : goal.returns-in-Some
returns-in-Some c =
    let own : HaveOwnIds subnet_id c.args.rows.now.subnets = subst (HaveOwnIds subnet_id) c.subnets.ensures c.rows-own_ids.ensures.own_ids in
    c.contains.ensures.word ∙ sym (found_contains c.args.address.now c.args.fixed.subnet c.args.rows.now.subnets own ∙ ap (contains_in c.args.address.now) (sym c.named_subnet.ensures ∙ ap option_copied c.in-Some.is))

pub returns-in-None : goal.returns-in-None
returns-in-None c =
    let own : HaveOwnIds subnet_id c.args.rows.now.subnets = subst (HaveOwnIds subnet_id) c.subnets.ensures c.rows-own_ids.ensures.own_ids in
    sym (found_contains c.args.address.now c.args.fixed.subnet c.args.rows.now.subnets own ∙ ap (contains_in c.args.address.now) (sym c.named_subnet.ensures ∙ ap option_copied c.in-None.is))
