use Rattle.std.proofs.Common.{◌∙◌, [], ◌∷◌, ap, codes}
use Rattle.serde_json.specs.View.{members_view}
use Rattle.api_types.specs.Printed.{word}
use Rattle.json_trees.specs.Printed.{members_data}
use Rattle.wire_replies.proofs.document.FaultBodyToJson.to_json.Goals as goal

pub returns : goal.returns
returns c =
    c.one_member.ensures ((codes "detail", word c.args.self.now.detail) ∷ (codes "message", word c.args.self.now.message) ∷ (codes "type", word c.args.self.now.kind) ∷ [])
    (c.in_ok-put-3.ensures ∙ ap (members_data ((codes "type", word c.args.self.now.kind) ∷ [])) (c.in_ok-put-2.ensures ∙ ap (members_data ((codes "message", word c.args.self.now.message) ∷ [])) (c.in_ok-put.ensures ∙ ap (members_data ((codes "detail", word c.args.self.now.detail) ∷ [])) (ap members_view c.new-map.ensures.empty))))
