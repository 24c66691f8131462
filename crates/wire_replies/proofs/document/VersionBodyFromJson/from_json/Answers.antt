use Rattle.std.proofs.Common.{◌≡◌, ◌∙◌, [], ◌∷◌, ap, codes, sym}
use Rattle.std.proofs.lemmas.Result.{err_from_is_err_and}
use Rattle.serde_json.specs.Data.{Data}
use Rattle.serde_json.specs.Find.{get}
use Rattle.serde_json.specs.View.{view}
use Rattle.api_types.specs.Printed.{number}
use Rattle.api_types.proofs.ListLemmas.{none_some, some_equal}
use Rattle.json_trees.specs.Printed.{fields, tree_data}
use Rattle.wire_replies.specs.declared.document.VersionBody.{VersionBody}
use Rattle.wire_replies.proofs.document.VersionBodyFromJson.from_json.Goals as goal

abbrev inside : VersionBody → Data
inside x = tree_data (fields ((codes "first", number x.first) ∷ (codes "last", number x.last) ∷ []))

pub returns-in_err-version-clause-reads : goal.returns-in_err-version-clause-reads
returns-in_err-version-clause-reads c x fit is =
    let p = err_from_is_err_and c.from_residual.result c.from_residual.ensures.1 in
    rw (p.1, p.2) (none_some (inside x) _ (sym c.in_err-version.ensures.err ∙ ap (get (codes "version")) is))

pub returns-in_err-first-clause-reads : goal.returns-in_err-first-clause-reads
returns-in_err-first-clause-reads c x fit is =
    let p = err_from_is_err_and c.from_residual-in_err-first.result c.from_residual-in_err-first.ensures.1 in
    let same : view c.in_ok-version.version.now ≡ inside x = some_equal (view c.in_ok-version.version.now) (inside x) (sym c.in_ok-version.ensures.ok ∙ ap (get (codes "version")) is) in
    rw (p.1, p.2) (c.in_err-first.ensures.reads x.first (fit.0) (ap (get (codes "first")) same))

pub returns-in_err-last-clause-reads : goal.returns-in_err-last-clause-reads
returns-in_err-last-clause-reads c x fit is =
    let p = err_from_is_err_and c.from_residual-in_err-last.result c.from_residual-in_err-last.ensures.1 in
    let same : view c.in_ok-version.version.now ≡ inside x = some_equal (view c.in_ok-version.version.now) (inside x) (sym c.in_ok-version.ensures.ok ∙ ap (get (codes "version")) is) in
    rw (p.1, p.2) (c.in_err-last.ensures.reads x.last (fit.1) (ap (get (codes "last")) same))

pub returns-clause-reads : goal.returns-clause-reads
returns-clause-reads c x fit is =
    let same : view c.in_ok-version.version.now ≡ inside x = some_equal (view c.in_ok-version.version.now) (inside x) (sym c.in_ok-version.ensures.ok ∙ ap (get (codes "version")) is) in
    λ j. record { first = c.in_ok-first.ensures.reads x.first (fit.0) (ap (get (codes "first")) same) j; last = c.in_ok-last.ensures.reads x.last (fit.1) (ap (get (codes "last")) same) j }

pub returns-clause-fits : goal.returns-clause-fits
returns-clause-fits c = (c.in_ok-first.ensures.fits, c.in_ok-last.ensures.fits)
