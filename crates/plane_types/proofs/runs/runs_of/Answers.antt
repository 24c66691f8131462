use Rattle.std.proofs.Common.{◌≡◌, ◌∙◌, ◌+◌, ◌^◌, ◌<◌, List, [], ◌∷◌, ◌++◌, length, take, arith, sym, ap, subst}
use Rattle.std.specs.Prelude.{Some, if◌then◌else◌}
use Rattle.std.specs.HashMap.{get}
use Rattle.std.proofs.lemmas.List.{length-take-le, take_more}
use Rattle.plane_types.specs.Runs.{IsRunOf, run_with}
use Rattle.plane_types.proofs.RunEdits.{push_run}
use Rattle.plane_types.proofs.runs.runs_of.Goals as goal

pub loop-place-preserved : goal.loop-place-preserved
loop-place-preserved g c = λ k.
    let rows = c.args.rows.now in
    let p = c.loop-place.place in
    let row = c.index-rows-place.result in
    let within : p < length rows =
    omega (arith, c.loop-place-test.true, c.loop-place.auto.place-end) in
    let at : length (take p rows) ≡ p = length-take-le p rows (omega (arith, within)) in
    let more : take (p + 1) rows ≡ take p rows ++ row ∷ [] =
    take_more rows p row within
    ∙ ap (λ r. take p rows ++ r ∷ []) (sym c.index-rows-place.is) in
    let small : p < 2 ^ 64 = omega (arith, within, c.count-len.ensures.fits) in
    let test = g.R.Keyed.is_at k in
    let was = get g.R.Key.PartialEq.eq c.loop-place.runs k in
    let now = get g.R.Key.PartialEq.eq c.take_in.new.runs k in
    let found : now ≡ (if test row then Some (run_with p was) else was) =
    c.take_in.ensures.found k
    ∙ (λ j. if sym (c.key.ensures k) j
    then Some (run_with p (c.make_room_for_run.ensures.found k j))
    else c.make_room_for_run.ensures.found k j) in
    subst (λ (xs : List g.row.R.Denot). IsRunOf test xs 0 0 now) (sym more)
    (push_run test (take p rows) p 0 0 row was now at small (c.loop-place.invariant k) found)
