use Rattle.std.proofs.Common.{◌≡◌, ◌∙◌, true, sym}
use Rattle.std.specs.Prelude.{not}
use Rattle.std.specs.List.{list_any}
use Rattle.std.proofs.lemmas.Result.{IfOk-weaker}
use Rattle.api_types.specs.Lists.{Pass}
use Rattle.api_types.specs.Consistent.Groups.{rules_clash, GroupsServe}
use Rattle.api_consistency.proofs.GroupLemmas.{groups_serve}
use Rattle.api_consistency.proofs.groups.are_groups.Goals as goal

pub returns : goal.returns
returns c =
    let rows = c.args.known.now in
    IfOk-weaker c.are_rules_apart.result (λ b. b ≡ true → Pass (λ r. not (list_any (rules_clash r) rows.rules)) rows.rules)
    (λ b. b ≡ true → GroupsServe rows.projects rows.ports rows.groups rows.rules)
    (λ b apart h. groups_serve rows (sym c.are_used.ensures ∙ c.if-not-are_used.false) (c.in_ok-are_defaults_once.ensures c.if-not-branch.false) (apart h)) c.are_rules_apart.ensures
