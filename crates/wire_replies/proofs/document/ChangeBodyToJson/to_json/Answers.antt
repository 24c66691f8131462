use Rattle.std.proofs.Common.{◌∙◌, [], ◌∷◌, ap, codes}
use Rattle.serde_json.specs.View.{members_view}
use Rattle.api_types.specs.Printed.{number}
use Rattle.wire_text.specs.Texts.{change_tree}
use Rattle.json_trees.specs.Printed.{members_data}
use Rattle.wire_replies.proofs.document.ChangeBodyToJson.to_json.Goals as goal

pub returns : goal.returns
returns c =
    c.one_member.ensures ((codes "items", change_tree c.args.self.now.items) ∷ (codes "number", number c.args.self.now.number) ∷ [])
    (c.in_ok-put-2.ensures ∙ ap (members_data ((codes "number", number c.args.self.now.number) ∷ [])) (c.in_ok-put.ensures ∙ ap (members_data ((codes "items", change_tree c.args.self.now.items) ∷ [])) (ap members_view c.new-map.ensures.empty)))
