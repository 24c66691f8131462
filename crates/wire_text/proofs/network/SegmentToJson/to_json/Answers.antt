use Rattle.std.proofs.Common.{◌∙◌, ap, rules, sym}
use Rattle.std.proofs.lemmas.Result.{IfOk-weaker}
use Rattle.serde_json.specs.declared.value.Value.{the_lemmas as value_lemmas}
use Rattle.api_types.specs.Printed.{null, number, word}
use Rattle.api_types.specs.declared.network.Segment.{Segment}
use Rattle.json_trees.specs.Printed.{tree_data}
use Rattle.wire_text.specs.Parts.{segment_tree}
use Rattle.wire_text.proofs.network.SegmentToJson.to_json.Goals as goal

pub returns-in-Local : goal.returns-in-Local
returns-in-Local c =
    IfOk-weaker c.write_parts.result _ _ (λ v is. is ∙ ap (λ (s : Segment). tree_data (segment_tree s)) (sym c.in-Local.is)) (c.write_parts.ensures null null (search (rules, value_lemmas)) (search (rules, value_lemmas)))

pub returns-in_ok-to_json-in-Flat : goal.returns-in_ok-to_json-in-Flat
returns-in_ok-to_json-in-Flat c =
    IfOk-weaker c.write_parts-in-Flat.result _ _ (λ v is. is ∙ ap (λ (s : Segment). tree_data (segment_tree s)) (sym c.in-Flat.is))
    (c.write_parts-in-Flat.ensures null (word c.in-Flat.physical) (search (rules, value_lemmas)) c.in_ok-to_json-in-Flat.ensures)

pub returns-in_ok-to_json-in-Vlan : goal.returns-in_ok-to_json-in-Vlan
returns-in_ok-to_json-in-Vlan c =
    IfOk-weaker c.write_parts-in-Vlan.result _ _ (λ v is. is ∙ ap (λ (s : Segment). tree_data (segment_tree s)) (sym c.in-Vlan.is))
    (c.write_parts-in-Vlan.ensures (number c.in-Vlan.tag) (word c.in-Vlan.physical) c.in_ok-number-in-Vlan.ensures c.in_ok-to_json-in-Vlan.ensures)

pub returns-in_ok-to_json-in-Vxlan : goal.returns-in_ok-to_json-in-Vxlan
returns-in_ok-to_json-in-Vxlan c =
    IfOk-weaker c.write_parts-in-Vxlan.result _ _ (λ v is. is ∙ ap (λ (s : Segment). tree_data (segment_tree s)) (sym c.in-Vxlan.is))
    (c.write_parts-in-Vxlan.ensures (number c.in-Vxlan.number) null c.in_ok-to_json-in-Vxlan.ensures (search (rules, value_lemmas)))
