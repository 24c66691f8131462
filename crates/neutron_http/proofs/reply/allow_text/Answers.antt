use Rattle.std.proofs.Common.{◌≡◌, Some, sym, ap, ◌∙◌}
use Rattle.neutron_http.proofs.ReplyLines.{allow_lines}
use Rattle.neutron_http.proofs.reply.allow_text.Goals as goal

pub returns-in_ok-format-in-Some : goal.returns-in_ok-format-in-Some
returns-in_ok-format-in-Some c =
    let same : c.args.extra.now.allow ≡ Some c.as_str-methods.result.now = c.in-Some.is ∙ ap Some (sym c.as_str-methods.ensures) in
    let told = allow_lines c.args.code c.args.extra.now.allow c.as_str-methods.result.now same c.if-code-eq405.true in
    c.in_ok-format-in-Some.ensures.ok ∙ sym told
