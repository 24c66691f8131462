use Rattle.std.proofs.Common.{◌∙◌, add-one, subst, sym}
use Rattle.keeper_sql.specs.Whole.{RunsAll}
use Rattle.keeper_sql.proofs.WholeLemmas.{nothing_then}
use Rattle.keeper_sql.proofs.change.write_items.Goals as goal

pub loop-item-preserved : goal.loop-item-preserved
loop-item-preserved g c = record {
  same_reference = c.write_item.ensures.same_reference ∙ c.loop-item.invariant.same_reference;
  inside = nothing_then g.S.Store _ _ _ c.loop-item.invariant.inside c.write_item.ensures.inside;
  ran = subst (λ n. RunsAll g.S.Store n c.args.to.now.conn.now c.write_item.new.to.conn.now)
      (sym (add-one c.loop-item.item-index))
      (c.loop-item.to.conn.now, c.loop-item.invariant.ran, c.in_ok-write_item.ensures.ran);
}
