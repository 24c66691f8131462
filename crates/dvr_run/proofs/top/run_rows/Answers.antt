use Rattle.std.proofs.Common.{ap, subst, sym, ◌∙◌}
use Rattle.std.specs.List.{IsDistinct}
use Rattle.std.specs.Str.{bytes_eq}
use Rattle.dvr_run.proofs.RunLemmas.{answers_as, none_run}
use Rattle.dvr_run.proofs.SameReplies.{consistent, same-replies}
use Rattle.dvr_run.specs.Answers.{names_of, replies}
use Rattle.dvr_run.specs.Hosts.{first_hosts}
use Rattle.dvr_run.specs.Turns.{replies_of}
use Rattle.dvr_run.proofs.top.run_rows.Goals as goal

pub of-requires-clause-consistent : goal.of-requires-clause-consistent
of-requires-clause-consistent g c = consistent c.args.settings.now c.args.rows.now c.hosts.ensures.rules c.requires

pub of-requires-clause-names : goal.of-requires-clause-names
of-requires-clause-names g c = subst (λ hs. IsDistinct bytes_eq (names_of hs)) (sym c.hosts.ensures.value) c.hosts.ensures.rules.host_names_differ

pub returns-in-Ok-clause-answers : goal.returns-in-Ok-clause-answers
returns-in-Ok-clause-answers g c =
    let settings = c.args.settings.now in
    answers_as c.args.rows.now (replies_of c.in-Ok.hosts) (replies c.args.rows.now (names_of settings.hosts)) c.answer_input.result
    (g.I.Source.told c.args.input.now) (g.O.Sink.told c.args.output.now) (g.I.Source.told c.answer_input.new.input) (g.O.Sink.told c.answer_input.new.output)
    (λ events. ap (λ hs. replies_of hs events) (c.in-Ok.ensures ∙ ap (first_hosts c.args.rows.now) c.hosts.ensures.value) ∙ same-replies settings c.args.rows.now c.hosts.ensures.rules c.requires events)
    c.answer_input.ensures.answers

pub returns-in-Err-clause-answers : goal.returns-in-Err-clause-answers
returns-in-Err-clause-answers g c = none_run c.args.rows.now (replies c.args.rows.now (names_of c.args.settings.now.hosts)) (g.I.Source.told c.args.input.now) (g.O.Sink.told c.args.output.now)
