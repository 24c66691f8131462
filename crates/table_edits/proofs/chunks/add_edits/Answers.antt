use Rattle.std.proofs.Common.{◌≡◌, ◌∙◌, ◌+◌, ◌++◌, ◌∷◌, ◌<◌, ◌^◌, ap, map, rules, subst, sym}
use Rattle.std.specs.Prelude.{All}
use Rattle.std.specs.Vec.Iter.{into_iter_items}
use Rattle.std.proofs.lemmas.List.Elements.{All-tail}
use Rattle.table_edits.specs.ChunksSeen.{moved_edit}
use Rattle.table_edits.proofs.ChunkLaw.{one_added}
use Rattle.table_edits.proofs.chunks.add_edits.Goals as goal

pub loop-edit-preserved : goal.loop-edit-preserved
loop-edit-preserved g c =
    let e = c.in-Some.edit in
    let left = into_iter_items c.next.new.self in
    let step : into_iter_items c.loop-edit.edit-iterator ≡ e ∷ left = search rules in (
      ap (λ l. l ++ map (moved_edit c.args.start) left) c.in_ok-push.ensures.ok
          ∙ one_added c.loop-edit.edits (moved_edit c.args.start e) (map (moved_edit c.args.start) left)
          ∙ (λ j. c.loop-edit.edits ++ map (moved_edit c.args.start) (sym step j))
          ∙ c.loop-edit.invariant.0,
      All-tail (λ e. c.args.start + e.place < 2 ^ 64) e left (subst (All (λ e. c.args.start + e.place < 2 ^ 64)) step c.loop-edit.invariant.1),
    )
