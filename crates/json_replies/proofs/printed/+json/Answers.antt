use Rattle.std.proofs.Common.{rules, ◌∙◌, ap, sym, arith}
use Rattle.std.proofs.lemmas.Grind.{common_steps}
use Rattle.serde_json.specs.Data.{array, object}
use Rattle.serde_json.specs.View.{items_of}
use Rattle.serde_json.proofs.Views.{view-Array, view-Object}
use Rattle.serde_json.specs.declared.value.Value.{the_lemmas as value_lemmas}
use Rattle.api_types.specs.declared.answer.Printed.{the_lemmas as printed_lemmas}
use Rattle.api_types.specs.Printed.{tree_of}
use Rattle.json_trees.proofs.PrintedLemmas.{items_data, members_push}
use Rattle.json_replies.proofs.printed.+json.Goals as goal

pub value_of-returns-in_ok-values_of-in-Items : goal.value_of-returns-in_ok-values_of-in-Items
value_of-returns-in_ok-values_of-in-Items t c =
    view-Array c.in_ok-values_of-in-Items.field-0
    ∙ ap (λ ds. array (items_of ds)) c.in_ok-values_of-in-Items.ensures
    ∙ ap array (sym (items_data tree_of _))
    ∙ search (rules, printed_lemmas, value_lemmas)

pub value_of-returns-in_ok-members_of-in-Object : goal.value_of-returns-in_ok-members_of-in-Object
value_of-returns-in_ok-members_of-in-Object t c =
    view-Object c.in_ok-members_of-in-Object.field-0 ∙ ap object c.in_ok-members_of-in-Object.ensures ∙ search (rules, printed_lemmas, value_lemmas)

pub members_of-loop-name-preserved : goal.members_of-loop-name-preserved
members_of-loop-name-preserved t c = c.in_ok-put.ensures.ok ∙ Prim.grind (arith, common_steps, members_push)
