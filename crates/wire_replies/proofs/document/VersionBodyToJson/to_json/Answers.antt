use Rattle.std.proofs.Common.{◌∙◌, [], ◌∷◌, ap, codes}
use Rattle.serde_json.specs.View.{members_view}
use Rattle.api_types.specs.Printed.{number}
use Rattle.json_trees.specs.Printed.{members_data}
use Rattle.wire_replies.proofs.document.VersionBodyToJson.to_json.Goals as goal

pub returns : goal.returns
returns c =
    c.one_member.ensures ((codes "first", number c.args.self.now.first) ∷ (codes "last", number c.args.self.now.last) ∷ [])
    (c.in_ok-put-2.ensures ∙ ap (members_data ((codes "last", number c.args.self.now.last) ∷ [])) (c.in_ok-put.ensures ∙ ap (members_data ((codes "first", number c.args.self.now.first) ∷ [])) (ap members_view c.new-map.ensures.empty)))
