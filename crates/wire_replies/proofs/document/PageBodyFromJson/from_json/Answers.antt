use Rattle.std.proofs.Common.{◌≡◌, ◌∙◌, [], ◌∷◌, ap, codes, sym}
use Rattle.std.proofs.lemmas.Result.{err_from_is_err_and}
use Rattle.serde_json.specs.Data.{Data}
use Rattle.serde_json.specs.Find.{get}
use Rattle.serde_json.specs.View.{view}
use Rattle.api_types.specs.Printed.{number, truth}
use Rattle.wire_text.specs.Texts.{rows_tree}
use Rattle.api_types.proofs.ListLemmas.{none_some, some_equal}
use Rattle.json_trees.specs.Printed.{fields, tree_data}
use Rattle.wire_replies.specs.declared.document.PageBody.{PageBody}
use Rattle.wire_replies.proofs.document.PageBodyFromJson.from_json.Goals as goal

abbrev inside : PageBody → Data
inside x = tree_data (fields ((codes "last", truth x.last) ∷ (codes "number", number x.number) ∷ (codes "rows", rows_tree x.rows) ∷ (codes "version", number x.version) ∷ []))

pub returns-in_err-page-clause-reads : goal.returns-in_err-page-clause-reads
returns-in_err-page-clause-reads c x fit is =
    let p = err_from_is_err_and c.from_residual.result c.from_residual.ensures.1 in
    rw (p.1, p.2) (none_some (inside x) _ (sym c.in_err-page.ensures.err ∙ ap (get (codes "page")) is))

pub returns-in_err-last-clause-reads : goal.returns-in_err-last-clause-reads
returns-in_err-last-clause-reads c x fit is =
    let p = err_from_is_err_and c.from_residual-in_err-last.result c.from_residual-in_err-last.ensures.1 in
    let same : view c.in_ok-page.page.now ≡ inside x = some_equal (view c.in_ok-page.page.now) (inside x) (sym c.in_ok-page.ensures.ok ∙ ap (get (codes "page")) is) in
    rw (p.1, p.2) (c.in_err-last.ensures.reads x.last (tt) (ap (get (codes "last")) same))

pub returns-in_err-number-clause-reads : goal.returns-in_err-number-clause-reads
returns-in_err-number-clause-reads c x fit is =
    let p = err_from_is_err_and c.from_residual-in_err-number.result c.from_residual-in_err-number.ensures.1 in
    let same : view c.in_ok-page.page.now ≡ inside x = some_equal (view c.in_ok-page.page.now) (inside x) (sym c.in_ok-page.ensures.ok ∙ ap (get (codes "page")) is) in
    rw (p.1, p.2) (c.in_err-number.ensures.reads x.number (fit.1) (ap (get (codes "number")) same))

pub returns-in_err-rows-clause-reads : goal.returns-in_err-rows-clause-reads
returns-in_err-rows-clause-reads c x fit is =
    let p = err_from_is_err_and c.from_residual-in_err-rows.result c.from_residual-in_err-rows.ensures.1 in
    let same : view c.in_ok-page.page.now ≡ inside x = some_equal (view c.in_ok-page.page.now) (inside x) (sym c.in_ok-page.ensures.ok ∙ ap (get (codes "page")) is) in
    rw (p.1, p.2) (c.in_err-rows.ensures.reads x.rows (fit.2) (ap (get (codes "rows")) same))

pub returns-in_err-version-clause-reads : goal.returns-in_err-version-clause-reads
returns-in_err-version-clause-reads c x fit is =
    let p = err_from_is_err_and c.from_residual-in_err-version.result c.from_residual-in_err-version.ensures.1 in
    let same : view c.in_ok-page.page.now ≡ inside x = some_equal (view c.in_ok-page.page.now) (inside x) (sym c.in_ok-page.ensures.ok ∙ ap (get (codes "page")) is) in
    rw (p.1, p.2) (c.in_err-version.ensures.reads x.version (fit.0) (ap (get (codes "version")) same))

pub returns-clause-reads : goal.returns-clause-reads
returns-clause-reads c x fit is =
    let same : view c.in_ok-page.page.now ≡ inside x = some_equal (view c.in_ok-page.page.now) (inside x) (sym c.in_ok-page.ensures.ok ∙ ap (get (codes "page")) is) in
    λ j. record { last = c.in_ok-last.ensures.reads x.last (tt) (ap (get (codes "last")) same) j; number = c.in_ok-number.ensures.reads x.number (fit.1) (ap (get (codes "number")) same) j; rows = c.in_ok-rows.ensures.reads x.rows (fit.2) (ap (get (codes "rows")) same) j; version = c.in_ok-version.ensures.reads x.version (fit.0) (ap (get (codes "version")) same) j }

pub returns-clause-fits : goal.returns-clause-fits
returns-clause-fits c = (c.in_ok-version.ensures.fits, c.in_ok-number.ensures.fits, c.in_ok-rows.ensures.fits)
