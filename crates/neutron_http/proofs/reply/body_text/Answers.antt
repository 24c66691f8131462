use Rattle.std.proofs.Common.{sym, ◌∙◌}
use Rattle.neutron_http.proofs.ReplyLines.{body_lines}
use Rattle.neutron_http.proofs.reply.body_text.Goals as goal

pub returns : goal.returns
returns c = c.in_ok-format.ensures.ok ∙ sym (body_lines c.args.code c.args.length c.if-code-eq204.false)
