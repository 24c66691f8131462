use Rattle.std.proofs.Common.{◌∙◌, [], ◌∷◌, ap, codes}
use Rattle.serde_json.specs.View.{members_view}
use Rattle.api_types.specs.Printed.{number, truth}
use Rattle.wire_text.specs.Texts.{rows_tree}
use Rattle.json_trees.specs.Printed.{members_data}
use Rattle.wire_replies.proofs.document.PageBodyToJson.to_json.Goals as goal

pub returns : goal.returns
returns c =
    c.one_member.ensures ((codes "last", truth c.args.self.now.last) ∷ (codes "number", number c.args.self.now.number) ∷ (codes "rows", rows_tree c.args.self.now.rows) ∷ (codes "version", number c.args.self.now.version) ∷ [])
    (c.in_ok-put-4.ensures ∙ ap (members_data ((codes "version", number c.args.self.now.version) ∷ [])) (c.in_ok-put-3.ensures ∙ ap (members_data ((codes "rows", rows_tree c.args.self.now.rows) ∷ [])) (c.in_ok-put-2.ensures ∙ ap (members_data ((codes "number", number c.args.self.now.number) ∷ [])) (c.in_ok-put.ensures ∙ ap (members_data ((codes "last", truth c.args.self.now.last) ∷ [])) (ap members_view c.new-map.ensures.empty)))))
