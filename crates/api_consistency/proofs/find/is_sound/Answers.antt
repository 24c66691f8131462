use Rattle.std.proofs.Common.{◌≡◌, ◌∙◌, true, None, sym}
use Rattle.std.proofs.lemmas.Result.{IfOk-weaker}
use Rattle.api_check.specs.FirstBroken.{first_broken_of}
use Rattle.api_consistency.proofs.find.is_sound.Goals as goal

pub returns : goal.returns
returns c =
    IfOk-weaker c.are_sound.result (λ b. b ≡ true → first_broken_of c.hosts.result.now c.in_ok-known.known ≡ None) (λ b. b ≡ true → first_broken_of c.args.settings.now.hosts c.args.rows.now ≡ None)
    (λ b none h. (λ j. first_broken_of (sym c.hosts.ensures.value j) (sym c.in_ok-known.ensures j)) ∙ none h) c.are_sound.ensures
