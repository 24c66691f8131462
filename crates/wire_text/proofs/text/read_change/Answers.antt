use Rattle.std.proofs.Common.{List}
use Rattle.std.proofs.lemmas.Result.{IfErr-weaker, IfOk-weaker}
use Rattle.wire_text.specs.Texts.{IsChangeText}
use Rattle.wire_text.proofs.ChangeText.{change_read}
use Rattle.wire_text.proofs.text.read_change.Goals as goal

pub returns-clause-ok : goal.returns-clause-ok
returns-clause-ok c =
    IfOk-weaker c.read_text.result _ (IsChangeText c.args.text.now) (λ x is. record { fit = is.0; utf8 = is.1; is = is.2 }) c.read_text.ensures.ok

pub returns-clause-bad : goal.returns-clause-bad
returns-clause-bad c =
    IfErr-weaker c.read_text.result _ _ (λ e none bad x is. none bad is.utf8 x is.fit (change_read x is.fit) is.is) c.read_text.ensures.bad
