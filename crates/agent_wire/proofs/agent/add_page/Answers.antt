use Rattle.std.proofs.Common.{◌∙◌, ap, refl, sym, true≢false}
use Rattle.agent_wire.specs.Phases.{has_next}
use Rattle.agent_wire.proofs.PhaseLemmas.{on_err, page_more, page_same}
use Rattle.agent_wire.proofs.agent.add_page.Goals as goal

pub returns-in-Check-clause-ok : goal.returns-in-Check-clause-ok
returns-in-Check-clause-ok c = absurd (true≢false (sym c.requires ∙ ap has_next c.in-Check.is))

pub returns-in-Follow-clause-ok : goal.returns-in-Follow-clause-ok
returns-in-Follow-clause-ok c = absurd (true≢false (sym c.requires ∙ ap has_next c.in-Follow.is))

pub returns-in_ok-append_rows-in-Draft-clause-ok : goal.returns-in_ok-append_rows-in-Draft-clause-ok
returns-in_ok-append_rows-in-Draft-clause-ok c =
    page_more c.args.phase.now _ c.in-Draft.version c.in-Draft.number c.in-Draft.rows.items c.in-Draft.is (λ held. refl) c.args.more c.append_rows.new.rows.items c.in_ok-append_rows-in-Draft.ensures.ok

pub returns-in_err-append_rows-in-Draft-clause-same : goal.returns-in_err-append_rows-in-Draft-clause-same
returns-in_err-append_rows-in-Draft-clause-same c =
    on_err c.from_residual.result _ (page_same c.args.phase.now _ c.in-Draft.version c.in-Draft.number c.in-Draft.rows.items c.in-Draft.is (λ held. refl) c.append_rows.new.rows.items c.in_err-append_rows-in-Draft.ensures.same)
