use Rattle.std.proofs.Common.{◌≡◌, ◌∙◌, true, None, sym}
use Rattle.std.proofs.lemmas.Result.{IfOk-weaker}
use Rattle.api_check.specs.FirstBroken.{first_broken_of}
use Rattle.api_consistency.specs.Parts.{AreServed}
use Rattle.api_consistency.proofs.SoundLaw.{none_broken}
use Rattle.api_consistency.proofs.find.are_sound.Goals as goal

pub returns : goal.returns
returns c =
    let rows = c.args.known.now in
    let hosts = c.args.hosts.now in
    IfOk-weaker c.are_served.result (λ b. b ≡ true → AreServed rows) (λ b. b ≡ true → first_broken_of hosts rows ≡ None)
    (λ b served h. none_broken hosts rows (sym c.are_rows_sound.ensures ∙ c.if-not-are_rows_sound.false) (c.in_ok-are_rows_apart.ensures c.if-not-branch.false) (served h)) c.are_served.ensures
