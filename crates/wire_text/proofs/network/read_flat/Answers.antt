use Rattle.std.proofs.Common.{ap, codes}
use Rattle.std.proofs.lemmas.Result.{err_from_is_err_and}
use Rattle.serde_json.specs.Find.{get}
use Rattle.api_types.specs.declared.network.Segment.TheVariants.{Flat}
use Rattle.wire_text.proofs.network.read_flat.Goals as goal

pub returns-in_err-read_member-clause-reads : goal.returns-in_err-read_member-clause-reads
returns-in_err-read_member-clause-reads c p fit is =
    let q = err_from_is_err_and c.from_residual.result c.from_residual.ensures.1 in
    rw (q.1, q.2) (c.in_err-read_member.ensures.reads p fit (ap (get (codes "physical")) is))

pub returns-clause-reads : goal.returns-clause-reads
returns-clause-reads c p fit is = ap Flat (c.in_ok-read_member.ensures.reads p fit (ap (get (codes "physical")) is))
