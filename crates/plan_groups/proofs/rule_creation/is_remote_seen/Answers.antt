use Rattle.std.proofs.Common.{◌∙◌, ap, option_copied}
use Rattle.api_types.specs.Lists.{is_some_so}
use Rattle.plan_groups.specs.GroupCalls.{is_remote_for}
use Rattle.plan_groups.proofs.rule_creation.is_remote_seen.Goals as goal

pub returns-in-Some : goal.returns-in-Some
returns-in-Some c =
    let caller = c.args.caller.now in
    c.is_remote_for.ensures caller ∙ ap (is_some_so (is_remote_for caller (option_copied c.args.group))) c.in-Some.ensures
