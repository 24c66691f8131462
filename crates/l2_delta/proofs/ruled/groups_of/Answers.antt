use Rattle.std.proofs.Common.{◌≡◌, ◌∙◌, ◌++◌}
use Rattle.std.specs.List.{filter_map}
use Rattle.api_types.specs.Members.{names_group}
use Rattle.api_types.specs.declared.group.GroupRow.{GroupRow}
use Rattle.l2_delta.proofs.CoverLemmas.{covers, ok_by_both, placed, unnamed}
use Rattle.l2_delta.proofs.ruled.groups_of.Goals as goal

pub returns : goal.returns
returns c =
    let groups = c.args.groups.now in
    let own = c.rows-own_ids.ensures.own_ids in
    let ids = c.args.port.now.groups in
    let named = c.named.result.now in
    let found = filter_map (placed groups.rows own) ids in
    let all : c.add_groups_with.new.numbers.items ≡ named ++ found = c.in_ok-add_groups_with.ensures ∙ (λ j. c.in_ok-numbers.ensures.items j ++ filter_map (placed groups.rows own) (c.as_slice.ensures j)) in
    ok_by_both _ _ _ c.descending.result (λ ks down same.
    covers (λ (g : GroupRow). names_group g.id ids) groups named found c.named.ensures c.add_groups_with.new.numbers.items ks.items all down same
    (λ k g away at. unnamed groups.rows own ids k g away at)) c.descending.ensures.down c.descending.ensures.same
