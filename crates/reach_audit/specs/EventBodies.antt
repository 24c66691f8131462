-- An event as the body of `explain` has it (docs/API.md): members in byte order of their names,
-- without spaces.
use Rattle.std.specs.Prelude.{ℕ, [], ◌∷◌, codes, Option, Some, None}
use Rattle.net_addr.specs.Words.{Bytes, Text}
use Rattle.serde_json.specs.Written.{compact_text}
use Rattle.api_types.specs.Printed.{NamedTree, Tree, null, number, word}
use Rattle.json_replies.specs.Frames.{frame_tree}
use Rattle.json_trees.specs.Words.{id_tree}
use Rattle.json_trees.specs.Printed.{fields, only, or_null, tree_data}
use Rattle.plane_types.specs.declared.event.Event.{Event}
use Rattle.plane_types.specs.declared.event.Event.TheVariants.{FromPort, FromWire}

abbrev pub event_tree : Event → Tree
event_tree (FromPort port frame) =
    fields ((codes "frame", frame_tree frame) ∷ (codes "port", id_tree port) ∷ [])
event_tree (FromWire physical tag frame) = fields (
    (codes "frame", frame_tree frame) ∷ (codes "physical_network", word physical)
    ∷ (codes "segmentation_id", or_null number tag) ∷ [])

abbrev pub body_tree : Event → Tree
body_tree e = only (codes "event") (event_tree e)

abbrev pub event_body : Event → Bytes
event_body e = compact_text (tree_data (body_tree e))
