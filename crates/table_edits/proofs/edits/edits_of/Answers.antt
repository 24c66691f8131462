use Rattle.std.proofs.Common.{◌≡◌, ◌∙◌, ◌+◌, ◌<◌, [], ◌∷◌, length, drop, Some, None, ap, sym, subst, arith}
use Rattle.std.proofs.lemmas.List.{drop_all, drop_more}
use Rattle.table_edits.specs.EditsAt.{IsEditAt}
use Rattle.table_edits.proofs.EditsAtLemmas.{AreSoFar, done, step_none, step_some}
use Rattle.table_edits.proofs.edits.edits_of.Goals as goal
use Rattle.table_edits.proofs.edits.edits_of.Goals.{in-Some+in_ok-push, in_default}

pub loop-key-preserved : goal.loop-key-preserved
loop-key-preserved g c =
    let before = g.C.Changed.before in
    let xs = g.C.Changed.entries c.args.table.now in
    let after = g.C.Changed.after c.args.table.now in
    let keys = c.args.keys.now in
    let i = c.loop-key.key-index in
    let es = c.loop-key.edits in
    let key = c.key-item.result in
    let left = drop (i + 1) keys in
    let within : i < length keys = omega (arith, c.loop-key-test.true, c.loop-key.auto.key-index-end) in
    let step : drop i keys ≡ key ∷ left = drop_more keys i key within ∙ ap (λ k. k ∷ left) (sym c.key-item.is) in
    let so_far : AreSoFar before xs after keys (key ∷ left) es = subst (λ ks. AreSoFar before xs after keys ks es) step c.loop-key.invariant in
    elim c.match-branch-2.branch [
      | in-Some+in_ok-push w ↦
          (let e = w.in-Some.edit in
          let is : IsEditAt before xs after key (Some e) = subst (IsEditAt before xs after key) w.in-Some.is c.in_ok-edit.ensures in
          subst (AreSoFar before xs after keys left) (sym (w.edits-is ∙ w.in_ok-push.ensures.ok))
          (step_some before xs after keys left key es e so_far is))
      | in_default w ↦
          (let is : IsEditAt before xs after key None = subst (IsEditAt before xs after key) w.in_default.is c.in_ok-edit.ensures in
          subst (AreSoFar before xs after keys left) (sym w.edits-is)
          (step_none before xs after keys left key es so_far is))
    ]

pub returns : goal.returns
returns g c =
    let before = g.C.Changed.before in
    let xs = g.C.Changed.entries c.args.table.now in
    let after = g.C.Changed.after c.args.table.now in
    let keys = c.args.keys.now in
    let i = c.loop-key.key-index in
    let es = c.loop-key.edits in
    let all : drop i keys ≡ [] = drop_all i keys (omega (arith, c.loop-key-test.false, c.loop-key.auto.key-index-end)) in
    done before xs after keys es (subst (λ ks. AreSoFar before xs after keys ks es) all c.loop-key.invariant)
