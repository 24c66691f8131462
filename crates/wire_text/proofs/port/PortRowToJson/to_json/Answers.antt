use Rattle.std.proofs.Common.{◌∙◌, [], ◌∷◌, ap, codes, map}
use Rattle.serde_json.specs.Data.{object}
use Rattle.serde_json.specs.View.{members_view}
use Rattle.serde_json.proofs.Views.{view-Object}
use Rattle.api_types.specs.Printed.{truth, word}
use Rattle.json_trees.specs.Words.{id_tree, mac_tree}
use Rattle.json_trees.specs.Printed.{list, members_data}
use Rattle.wire_text.specs.Parts.{fixed_tree, pair_tree}
use Rattle.wire_text.specs.VariantNames.{vif_name}
use Rattle.wire_text.proofs.port.PortRowToJson.to_json.Goals as goal

pub returns : goal.returns
returns c =
    view-Object c.put-16.new.map
    ∙ ap object (c.in_ok-put-16.ensures ∙ ap (members_data ((codes "vif", word (vif_name c.args.self.now.vif)) ∷ []))
    (c.in_ok-put-15.ensures ∙ ap (members_data ((codes "up", truth c.args.self.now.up) ∷ []))
    (c.in_ok-put-14.ensures ∙ ap (members_data ((codes "secured", truth c.args.self.now.secured) ∷ []))
    (c.in_ok-put-13.ensures ∙ ap (members_data ((codes "project", word c.args.self.now.project) ∷ []))
    (c.in_ok-put-12.ensures ∙ ap (members_data ((codes "pairs", list (map pair_tree c.args.self.now.pairs)) ∷ []))
    (c.in_ok-put-11.ensures ∙ ap (members_data ((codes "owner", word c.args.self.now.owner) ∷ []))
    (c.in_ok-put-10.ensures ∙ ap (members_data ((codes "network", id_tree c.args.self.now.network) ∷ []))
    (c.in_ok-put-9.ensures ∙ ap (members_data ((codes "name", word c.args.self.now.name) ∷ []))
    (c.in_ok-put-8.ensures ∙ ap (members_data ((codes "mac", mac_tree c.args.self.now.mac) ∷ []))
    (c.in_ok-put-7.ensures ∙ ap (members_data ((codes "id", id_tree c.args.self.now.id) ∷ []))
    (c.in_ok-put-6.ensures ∙ ap (members_data ((codes "host", word c.args.self.now.host) ∷ []))
    (c.in_ok-put-5.ensures ∙ ap (members_data ((codes "groups", list (map id_tree c.args.self.now.groups)) ∷ []))
    (c.in_ok-put-4.ensures ∙ ap (members_data ((codes "fixed", list (map fixed_tree c.args.self.now.fixed)) ∷ []))
    (c.in_ok-put-3.ensures ∙ ap (members_data ((codes "device", word c.args.self.now.device) ∷ []))
    (c.in_ok-put-2.ensures ∙ ap (members_data ((codes "description", word c.args.self.now.description) ∷ []))
    (c.in_ok-put.ensures ∙ ap (members_data ((codes "by_admin", truth c.args.self.now.by_admin) ∷ []))
    (ap members_view c.new-map.ensures.empty)))))))))))))))))
