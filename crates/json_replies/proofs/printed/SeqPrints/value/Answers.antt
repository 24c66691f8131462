use Rattle.std.proofs.Common.{◌∙◌, ap, sym, map}
use Rattle.serde_json.specs.Data.{array}
use Rattle.serde_json.specs.View.{items_of}
use Rattle.serde_json.proofs.Views.{view-Array}
use Rattle.api_types.specs.Printed.{trees_of}
use Rattle.json_trees.specs.Printed.{trees_data}
use Rattle.json_trees.proofs.PrintedLemmas.{items_data}
use Rattle.json_replies.proofs.printed.SeqPrints.value.Goals as goal

pub returns : goal.returns
returns g c =
    view-Array c.in_ok-values.field-0
    ∙ ap (λ ds. array (items_of ds)) c.in_ok-values.ensures
    ∙ ap array (sym (items_data g.T.Prints.tree c.as_slice.result.now))
    ∙ ap (λ xs. array (trees_data (trees_of (map g.T.Prints.tree xs)))) c.as_slice.ensures
