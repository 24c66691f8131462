use Rattle.std.proofs.Common.{◌≡◌, ◌∙◌, ◌∷◌, [], ℕ, List, Bool, Option, Some, None, ap, codes, false, not, refl, sym, true, true≢false}
use Rattle.std.specs.Prelude.{◌==◌, option_map}
use Rattle.clap.proofs.OnLiterals.{clap_on_literals}
use Rattle.command_lines.specs.Lines.{line_of, opening_by}
use Rattle.command_lines.specs.Values.{delivery_of, is_value}
use Rattle.command_lines.specs.declared.line.Delivery.{Delivery}
use Rattle.command_lines.specs.declared.line.Line.TheVariants.{Session}
use Rattle.command_lines.proofs.laws.delivery_laws.Goals as goal

told_by : (o : Option Delivery) → option_map (λ opening. Session opening) (option_map (λ d. opening_by None None d) o) ≡ option_map (λ d. Session (opening_by None None d)) o
told_by None = refl
told_by (Some d) = refl

pub returns-clause-joined : goal.returns-clause-joined
unfolding clap_on_literals
returns-clause-joined c = λ v. told_by (delivery_of (Some v))

apart : (v : List ℕ) → is_value v ≡ true → line_of (codes "session" ∷ codes "--delivery" ∷ v ∷ []) ≡ option_map (λ d. Session (opening_by None None d)) (delivery_of (Some v))
unfolding clap_on_literals
apart [] e = absurd (true≢false (sym e))
apart (b ∷ bs) e = go (b == 45) refl
  where
    go : (t : Bool) → (b == 45) ≡ t → line_of (codes "session" ∷ codes "--delivery" ∷ (b ∷ bs) ∷ []) ≡ option_map (λ d. Session (opening_by None None d)) (delivery_of (Some (b ∷ bs)))
    go true f = absurd (true≢false (sym e ∙ ap not f))
    go false f = rw f (rw f (told_by (delivery_of (Some (b ∷ bs)))))

pub returns-clause-apart : goal.returns-clause-apart
returns-clause-apart c = apart

pub returns-clause-twice : goal.returns-clause-twice
unfolding clap_on_literals
returns-clause-twice c = λ v w. refl
