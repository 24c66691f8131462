use Rattle.std.proofs.Common.{◌≡◌, drop}
use Rattle.toml.specs.View.{items_view}
use Rattle.json_values.proofs.ListLemmas.{behind}
use Rattle.wanted_files.specs.Document.{reaches_among}
use Rattle.wanted_files.proofs.document.reaches_among.Given as goal

-- the tables so far before those of the values that are left
abbrev pub invariant-loop-item : goal.invariant-loop-item
invariant-loop-item l = behind l.wanted (reaches_among (items_view (drop l.item-index l.items))) ≡ reaches_among (items_view l.items)
