use Rattle.std.proofs.Common.{◌≡◌, ◌∙◌, [], Some, ap, slice_get, sym}
use Rattle.std.specs.Prelude.{nat_lt, option_and_then}
use Rattle.std.specs.List.{cons_option}
use Rattle.std.proofs.lemmas.Result.{on_ok_weaker}
use Rattle.table_edits.specs.EditsAt.{among}
use Rattle.l2_delta.specs.SetKeys.{group_number, is_remote}
use Rattle.l2_delta.proofs.GapListLemmas.{none_there}
use Rattle.l2_delta.proofs.SetGroups.{among_fewer, not_added, still_without}
use Rattle.l2_delta.proofs.named_sets.take_out.Goals as goal

pub returns-in-Some-clause-fewer : goal.returns-in-Some-clause-fewer
returns-in-Some-clause-fewer c =
    on_ok_weaker c.add_remote.result
    (λ more_are n away.
    let more = cons_option (option_and_then (group_number c.args.groups.now.rows) c.in-Some.gone) [] in
    among_fewer n c.args.numbers.now.items more (ap (among nat_lt n) (sym more_are) ∙ away))
    c.add_remote.ensures

pub returns-in-Some-clause-alike : goal.returns-in-Some-clause-alike
returns-in-Some-clause-alike c =
    let remotes = c.args.remotes.now in
    let there : slice_get remotes c.args.place ≡ Some c.in-Some.gone = sym c.in_ok-gone.ensures.gone ∙ c.in-Some.is in
    on_ok_weaker c.add_remote.result
    (λ more_are n g away at.
    still_without remotes c.args.place c.in-Some.gone g there
    (not_added c.args.groups.now.rows c.args.numbers.now.items c.in-Some.gone n g (ap (among nat_lt n) (sym more_are) ∙ away) at)
    ∙ ap (λ rs. is_remote rs g) (sym c.in_ok-gone.ensures.items))
    c.add_remote.ensures

pub returns-in-None-clause-alike : goal.returns-in-None-clause-alike
returns-in-None-clause-alike c = λ n g away at.
    let none = sym c.in_ok-gone.ensures.gone ∙ c.in-None.is in
    ap (λ rs. is_remote rs g) (sym (c.in_ok-gone.ensures.items ∙ none_there c.args.remotes.now c.args.place none))
