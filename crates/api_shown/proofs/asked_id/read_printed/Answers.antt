use Rattle.std.proofs.Common.{◌∙◌, sym}
use Rattle.api_shown.proofs.AskedIdLemmas.{printed_text}
use Rattle.api_shown.proofs.asked_id.read_printed.Goals as goal

pub returns-then-is_printed-clause-text : goal.returns-then-is_printed-clause-text
returns-then-is_printed-clause-text c = printed_text c.args.value.now c.in_ok-id.id (sym c.is_printed.ensures ∙ c.if-is_printed.true)
