use Rattle.std.proofs.Common.{◌≡◌, ◌∙◌, ◌++◌, ◌∷◌, [], ℕ, List, Bool, Option, Some, None, ap, codes, false, not, refl, sym, true, true≢false}
use Rattle.std.specs.Prelude.{if◌then◌else◌, option_and_then, ◌==◌, option_map}
use Rattle.clap.proofs.OnLiterals.{clap_on_literals}
use Rattle.command_lines.specs.Lines.{line_of, opening_by}
use Rattle.command_lines.specs.Values.{is_value, number_of}
use Rattle.command_lines.specs.declared.line.Delivery.TheVariants.{Automatic}
use Rattle.command_lines.specs.declared.line.Line.{Line}
use Rattle.command_lines.specs.declared.line.Line.TheVariants.{Serve}
use Rattle.command_lines.proofs.laws.serve_laws.Goals as goal

-- the line with a value to listen at, where there is one
abbrev listening : List ℕ → List ℕ → Bool → Option Line
listening v w b = option_and_then (λ listen. option_map (λ n. Serve (opening_by None None Automatic) listen n) (number_of 1 1000000 w)) (if b then Some v else None)

pub returns-clause-joined : goal.returns-clause-joined
unfolding clap_on_literals
returns-clause-joined c = λ v w e. ap (listening v w) e

pub returns-clause-turned : goal.returns-clause-turned
unfolding clap_on_literals
returns-clause-turned c = λ v w e. ap (listening v w) e

listen_apart : (v w : List ℕ) → is_value v ≡ true → line_of (codes "serve" ∷ codes "--listen" ∷ v ∷ (codes "--connections=" ++ w) ∷ []) ≡ option_map (λ n. Serve (opening_by None None Automatic) v n) (number_of 1 1000000 w)
unfolding clap_on_literals
listen_apart [] w e = absurd (true≢false (sym e))
listen_apart (b ∷ bs) w e = go (b == 45) refl
  where
    go : (t : Bool) → (b == 45) ≡ t → line_of (codes "serve" ∷ codes "--listen" ∷ (b ∷ bs) ∷ (codes "--connections=" ++ w) ∷ []) ≡ option_map (λ n. Serve (opening_by None None Automatic) (b ∷ bs) n) (number_of 1 1000000 w)
    go true f = absurd (true≢false (sym e ∙ ap not f))
    go false f = rw f (rw f (ap (listening (b ∷ bs) w) e))

pub returns-clause-listen_apart : goal.returns-clause-listen_apart
returns-clause-listen_apart c = listen_apart

connections_apart : (v : List ℕ) → is_value v ≡ true → line_of (codes "serve" ∷ codes "--listen=a" ∷ codes "--connections" ∷ v ∷ []) ≡ option_map (λ n. Serve (opening_by None None Automatic) (codes "a") n) (number_of 1 1000000 v)
unfolding clap_on_literals
connections_apart [] e = absurd (true≢false (sym e))
connections_apart (b ∷ bs) e = go (b == 45) refl
  where
    go : (t : Bool) → (b == 45) ≡ t → line_of (codes "serve" ∷ codes "--listen=a" ∷ codes "--connections" ∷ (b ∷ bs) ∷ []) ≡ option_map (λ n. Serve (opening_by None None Automatic) (codes "a") n) (number_of 1 1000000 (b ∷ bs))
    go true f = absurd (true≢false (sym e ∙ ap not f))
    go false f = rw f (rw f refl)

pub returns-clause-connections_apart : goal.returns-clause-connections_apart
returns-clause-connections_apart c = connections_apart

pub returns-clause-none : goal.returns-clause-none
unfolding clap_on_literals
returns-clause-none c = λ v w e. ap (listening v w) e
