use Rattle.std.proofs.Common.{Some, None, ap, subst, ◌∙◌}
use Rattle.http_heads.specs.Fields.{project_of}
use Rattle.http_heads.specs.Parts.{IsPartOfOption}
use Rattle.neutron_serve.proofs.Asking.{caller_refused, no_part, part_text}
use Rattle.neutron_serve.proofs.request.caller.Goals as goal

pub returns-in-Some-clause-err : goal.returns-in-Some-clause-err
returns-in-Some-clause-err c asked is =
    caller_refused asked (Some c.text.result.now) c.args.request.now.parts.admin c.read_caller.result
    (ap Some c.text.ensures ∙ part_text c.args.bytes.now c.in-Some.part (project_of asked.head)
    (subst (λ o. IsPartOfOption c.args.bytes.now o (project_of asked.head)) c.in-Some.is is.parts.project))
    is.parts.admin c.read_caller.ensures.err

pub returns-in-None-clause-err : goal.returns-in-None-clause-err
returns-in-None-clause-err c asked is =
    caller_refused asked None c.args.request.now.parts.admin c.read_caller-in-None.result
    (no_part c.args.bytes.now (project_of asked.head) (subst (λ o. IsPartOfOption c.args.bytes.now o (project_of asked.head)) c.in-None.is is.parts.project))
    is.parts.admin c.read_caller-in-None.ensures.err
