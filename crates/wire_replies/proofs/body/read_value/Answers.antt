use Rattle.std.proofs.Common.{◌≡◌, ◌∙◌, subst, sym}
use Rattle.std.proofs.lemmas.Result.{IfErr-weaker}
use Rattle.serde_json.specs.View.{view}
use Rattle.wire_replies.specs.Kinds.{IsOf, answer_in}
use Rattle.wire_replies.specs.declared.body.Answer.TheVariants.{Change, Page, Version}
use Rattle.wire_replies.proofs.BodyLemmas.{answer_is}
use Rattle.wire_replies.proofs.body.read_value.Goals as goal

pub returns-in-Version-clause-bad : goal.returns-in-Version-clause-bad
returns-in-Version-clause-bad c =
    let which : answer_in (view c.args.value.now) ≡ Version = sym c.guess_answer.ensures ∙ c.in-Version.is in
    IfErr-weaker c.read_version.result _ _ (λ e none bad r is. none bad r (subst (λ a. IsOf a r) which (answer_is c.args.body.now (view c.args.value.now) c.requires.text r is)) is) c.read_version.ensures.bad

pub returns-in-Change-clause-bad : goal.returns-in-Change-clause-bad
returns-in-Change-clause-bad c =
    let which : answer_in (view c.args.value.now) ≡ Change = sym c.guess_answer.ensures ∙ c.in-Change.is in
    IfErr-weaker c.read_change.result _ _ (λ e none bad r is. none bad r (subst (λ a. IsOf a r) which (answer_is c.args.body.now (view c.args.value.now) c.requires.text r is)) is) c.read_change.ensures.bad

pub returns-in-Page-clause-bad : goal.returns-in-Page-clause-bad
returns-in-Page-clause-bad c =
    let which : answer_in (view c.args.value.now) ≡ Page = sym c.guess_answer.ensures ∙ c.in-Page.is in
    IfErr-weaker c.read_page.result _ _ (λ e none bad r is. none bad r (subst (λ a. IsOf a r) which (answer_is c.args.body.now (view c.args.value.now) c.requires.text r is)) is) c.read_page.ensures.bad
