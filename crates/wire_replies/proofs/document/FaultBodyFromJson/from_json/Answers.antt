use Rattle.std.proofs.Common.{◌≡◌, ◌∙◌, [], ◌∷◌, ap, codes, sym}
use Rattle.std.proofs.lemmas.Result.{err_from_is_err_and}
use Rattle.serde_json.specs.Data.{Data}
use Rattle.serde_json.specs.Find.{get}
use Rattle.serde_json.specs.View.{view}
use Rattle.api_types.specs.Printed.{word}
use Rattle.api_types.proofs.ListLemmas.{none_some, some_equal}
use Rattle.json_trees.specs.Printed.{fields, tree_data}
use Rattle.wire_replies.specs.declared.document.FaultBody.{FaultBody}
use Rattle.wire_replies.proofs.document.FaultBodyFromJson.from_json.Goals as goal

abbrev inside : FaultBody → Data
inside x = tree_data (fields ((codes "detail", word x.detail) ∷ (codes "message", word x.message) ∷ (codes "type", word x.kind) ∷ []))

pub returns-in_err-fault-clause-reads : goal.returns-in_err-fault-clause-reads
returns-in_err-fault-clause-reads c x fit is =
    let p = err_from_is_err_and c.from_residual.result c.from_residual.ensures.1 in
    rw (p.1, p.2) (none_some (inside x) _ (sym c.in_err-fault.ensures.err ∙ ap (get (codes "NeutronError")) is))

pub returns-in_err-detail-clause-reads : goal.returns-in_err-detail-clause-reads
returns-in_err-detail-clause-reads c x fit is =
    let p = err_from_is_err_and c.from_residual-in_err-detail.result c.from_residual-in_err-detail.ensures.1 in
    let same : view c.in_ok-fault.fault.now ≡ inside x = some_equal (view c.in_ok-fault.fault.now) (inside x) (sym c.in_ok-fault.ensures.ok ∙ ap (get (codes "NeutronError")) is) in
    rw (p.1, p.2) (c.in_err-detail.ensures.reads x.detail (fit.0) (ap (get (codes "detail")) same))

pub returns-in_err-message-clause-reads : goal.returns-in_err-message-clause-reads
returns-in_err-message-clause-reads c x fit is =
    let p = err_from_is_err_and c.from_residual-in_err-message.result c.from_residual-in_err-message.ensures.1 in
    let same : view c.in_ok-fault.fault.now ≡ inside x = some_equal (view c.in_ok-fault.fault.now) (inside x) (sym c.in_ok-fault.ensures.ok ∙ ap (get (codes "NeutronError")) is) in
    rw (p.1, p.2) (c.in_err-message.ensures.reads x.message (fit.1) (ap (get (codes "message")) same))

pub returns-in_err-kind-clause-reads : goal.returns-in_err-kind-clause-reads
returns-in_err-kind-clause-reads c x fit is =
    let p = err_from_is_err_and c.from_residual-in_err-kind.result c.from_residual-in_err-kind.ensures.1 in
    let same : view c.in_ok-fault.fault.now ≡ inside x = some_equal (view c.in_ok-fault.fault.now) (inside x) (sym c.in_ok-fault.ensures.ok ∙ ap (get (codes "NeutronError")) is) in
    rw (p.1, p.2) (c.in_err-kind.ensures.reads x.kind (fit.2) (ap (get (codes "type")) same))

pub returns-clause-reads : goal.returns-clause-reads
returns-clause-reads c x fit is =
    let same : view c.in_ok-fault.fault.now ≡ inside x = some_equal (view c.in_ok-fault.fault.now) (inside x) (sym c.in_ok-fault.ensures.ok ∙ ap (get (codes "NeutronError")) is) in
    λ j. record { detail = c.in_ok-detail.ensures.reads x.detail (fit.0) (ap (get (codes "detail")) same) j; message = c.in_ok-message.ensures.reads x.message (fit.1) (ap (get (codes "message")) same) j; kind = c.in_ok-kind.ensures.reads x.kind (fit.2) (ap (get (codes "type")) same) j }

pub returns-clause-fits : goal.returns-clause-fits
returns-clause-fits c = (c.in_ok-detail.ensures.fits, c.in_ok-message.ensures.fits, c.in_ok-kind.ensures.fits)
