use Rattle.std.proofs.Common.{◌≡◌, ◌∙◌, ◌∷◌, [], ℕ, List, Bool, Some, None, ap, codes, false, not, refl, sym, true, true≢false}
use Rattle.std.specs.Prelude.{◌==◌}
use Rattle.clap.proofs.OnLiterals.{clap_on_literals}
use Rattle.command_lines.specs.Lines.{line_of, opening_by}
use Rattle.command_lines.specs.Values.{is_value}
use Rattle.command_lines.specs.declared.line.Delivery.TheVariants.{Automatic}
use Rattle.command_lines.specs.declared.line.Line.TheVariants.{Session}
use Rattle.command_lines.proofs.laws.settings_laws.Goals as goal

pub returns-clause-joined : goal.returns-clause-joined
unfolding clap_on_literals
returns-clause-joined c = λ v e. rw e refl

apart : (v : List ℕ) → is_value v ≡ true → line_of (codes "session" ∷ codes "--settings" ∷ v ∷ []) ≡ Some (Session (opening_by (Some v) None Automatic))
unfolding clap_on_literals
apart [] e = absurd (true≢false (sym e))
apart (b ∷ bs) e = go (b == 45) refl
  where
    go : (t : Bool) → (b == 45) ≡ t → line_of (codes "session" ∷ codes "--settings" ∷ (b ∷ bs) ∷ []) ≡ Some (Session (opening_by (Some (b ∷ bs)) None Automatic))
    go true f = absurd (true≢false (sym e ∙ ap not f))
    go false f = rw f (rw f (rw f refl))

pub returns-clause-apart : goal.returns-clause-apart
returns-clause-apart c = apart

pub returns-clause-none : goal.returns-clause-none
unfolding clap_on_literals
returns-clause-none c = λ v e. rw e refl

pub returns-clause-twice : goal.returns-clause-twice
unfolding clap_on_literals
returns-clause-twice c = λ v w. refl
