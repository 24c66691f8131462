use Rattle.std.proofs.Common.{◌≡◌, ◌∙◌, [], ◌∷◌, ap, codes, sym}
use Rattle.std.proofs.lemmas.Result.{err_from_is_err_and}
use Rattle.serde_json.specs.Data.{Data}
use Rattle.serde_json.specs.Find.{get}
use Rattle.serde_json.specs.View.{view}
use Rattle.api_types.specs.Printed.{number}
use Rattle.wire_text.specs.Texts.{change_tree}
use Rattle.api_types.proofs.ListLemmas.{none_some, some_equal}
use Rattle.json_trees.specs.Printed.{fields, tree_data}
use Rattle.wire_replies.specs.declared.document.ChangeBody.{ChangeBody}
use Rattle.wire_replies.proofs.document.ChangeBodyFromJson.from_json.Goals as goal

abbrev inside : ChangeBody → Data
inside x = tree_data (fields ((codes "items", change_tree x.items) ∷ (codes "number", number x.number) ∷ []))

pub returns-in_err-change-clause-reads : goal.returns-in_err-change-clause-reads
returns-in_err-change-clause-reads c x fit is =
    let p = err_from_is_err_and c.from_residual.result c.from_residual.ensures.1 in
    rw (p.1, p.2) (none_some (inside x) _ (sym c.in_err-change.ensures.err ∙ ap (get (codes "change")) is))

pub returns-in_err-items-clause-reads : goal.returns-in_err-items-clause-reads
returns-in_err-items-clause-reads c x fit is =
    let p = err_from_is_err_and c.from_residual-in_err-items.result c.from_residual-in_err-items.ensures.1 in
    let same : view c.in_ok-change.change.now ≡ inside x = some_equal (view c.in_ok-change.change.now) (inside x) (sym c.in_ok-change.ensures.ok ∙ ap (get (codes "change")) is) in
    rw (p.1, p.2) (c.in_err-items.ensures.reads x.items (fit.1) (ap (get (codes "items")) same))

pub returns-in_err-number-clause-reads : goal.returns-in_err-number-clause-reads
returns-in_err-number-clause-reads c x fit is =
    let p = err_from_is_err_and c.from_residual-in_err-number.result c.from_residual-in_err-number.ensures.1 in
    let same : view c.in_ok-change.change.now ≡ inside x = some_equal (view c.in_ok-change.change.now) (inside x) (sym c.in_ok-change.ensures.ok ∙ ap (get (codes "change")) is) in
    rw (p.1, p.2) (c.in_err-number.ensures.reads x.number (fit.0) (ap (get (codes "number")) same))

pub returns-clause-reads : goal.returns-clause-reads
returns-clause-reads c x fit is =
    let same : view c.in_ok-change.change.now ≡ inside x = some_equal (view c.in_ok-change.change.now) (inside x) (sym c.in_ok-change.ensures.ok ∙ ap (get (codes "change")) is) in
    λ j. record { items = c.in_ok-items.ensures.reads x.items (fit.1) (ap (get (codes "items")) same) j; number = c.in_ok-number.ensures.reads x.number (fit.0) (ap (get (codes "number")) same) j }

pub returns-clause-fits : goal.returns-clause-fits
returns-clause-fits c = (c.in_ok-number.ensures.fits, c.in_ok-items.ensures.fits)
