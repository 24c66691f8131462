use Rattle.std.proofs.Common.{◌∙◌, [], ap, sym}
use Rattle.std.specs.Prelude.{nat_lt, option_and_then}
use Rattle.std.specs.List.{cons_option}
use Rattle.std.proofs.lemmas.Result.{on_ok_weaker}
use Rattle.table_edits.specs.EditsAt.{among}
use Rattle.l2_delta.specs.SetKeys.{group_number, is_remote}
use Rattle.l2_delta.proofs.SetGroups.{among_fewer, not_added, still_with}
use Rattle.l2_delta.proofs.named_sets.put_in.Goals as goal

pub returns-clause-fewer : goal.returns-clause-fewer
returns-clause-fewer c =
    on_ok_weaker c.put.result
    (λ put n away.
    let more = cons_option (option_and_then (group_number c.args.groups.now.rows) c.args.remote.now) [] in
    among_fewer n c.args.numbers.now.items more (ap (among nat_lt n) (sym c.in_ok-add_remote.ensures) ∙ away))
    c.put.ensures

pub returns-clause-alike : goal.returns-clause-alike
returns-clause-alike c =
    on_ok_weaker c.put.result
    (λ put n g away at.
    still_with c.args.remotes.now c.args.place c.args.remote.now g
    (not_added c.args.groups.now.rows c.args.numbers.now.items c.args.remote.now n g (ap (among nat_lt n) (sym c.in_ok-add_remote.ensures) ∙ away) at)
    ∙ ap (λ rs. is_remote rs g) (sym put))
    c.put.ensures
