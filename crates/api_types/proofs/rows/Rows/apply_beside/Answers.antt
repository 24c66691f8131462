use Rattle.std.proofs.Common.{◌∙◌, ap}
use Rattle.api_types.specs.TableItems.{with_kind}
use Rattle.api_types.proofs.BesideLemmas.{alone_after, alone_fits}
use Rattle.api_types.proofs.rows.Rows.apply_beside.Goals as goal

pub apply_item-requires : goal.apply_item-requires
apply_item-requires c = alone_fits c.args.kind c.args.self.now c.args.items.now _ c.in-Some.ensures c.requires

pub returns-clause-ok : goal.returns-clause-ok
returns-clause-ok c =
    c.swap_kind.ensures ∙ ap (with_kind c.args.kind c.in_ok-made.made) c.in_ok-apply_item.ensures.ok
    ∙ alone_after c.args.kind c.args.self.now c.in_ok-made.made c.args.items.now _ c.in-Some.ensures c.in_ok-made.ensures
