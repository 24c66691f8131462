use Rattle.std.proofs.Common.{◌≡◌, ◌∙◌, ◌∷◌, [], ℕ, List, Bool, ap, codes, false, not, refl, sym, true, true≢false}
use Rattle.std.specs.Prelude.{◌==◌, ◌-◌, ◌^◌, option_map}
use Rattle.clap.proofs.OnLiterals.{clap_on_literals}
use Rattle.command_lines.specs.Lines.{line_of}
use Rattle.command_lines.specs.Values.{is_value, number_of}
use Rattle.command_lines.specs.declared.line.Line.TheVariants.{Drill}
use Rattle.command_lines.proofs.laws.drill_laws.Goals as goal

start : (v : List ℕ) → is_value v ≡ true → line_of (codes "drill" ∷ v ∷ codes "1" ∷ []) ≡ option_map (λ n. Drill n 1 false) (number_of 0 (2 ^ 64 - 1) v)
unfolding clap_on_literals
start [] e = absurd (true≢false (sym e))
start (b ∷ bs) e = go (b == 45) refl
  where
    go : (t : Bool) → (b == 45) ≡ t → line_of (codes "drill" ∷ (b ∷ bs) ∷ codes "1" ∷ []) ≡ option_map (λ n. Drill n 1 false) (number_of 0 (2 ^ 64 - 1) (b ∷ bs))
    go true f = absurd (true≢false (sym e ∙ ap not f))
    go false f = rw f (rw f refl)

pub returns-clause-start : goal.returns-clause-start
returns-clause-start c = start

size : (v : List ℕ) → is_value v ≡ true → line_of (codes "drill" ∷ codes "7" ∷ v ∷ []) ≡ option_map (λ n. Drill 7 n false) (number_of 1 10000 v)
unfolding clap_on_literals
size [] e = absurd (true≢false (sym e))
size (b ∷ bs) e = go (b == 45) refl
  where
    go : (t : Bool) → (b == 45) ≡ t → line_of (codes "drill" ∷ codes "7" ∷ (b ∷ bs) ∷ []) ≡ option_map (λ n. Drill 7 n false) (number_of 1 10000 (b ∷ bs))
    go true f = absurd (true≢false (sym e ∙ ap not f))
    go false f = rw f (rw f refl)

pub returns-clause-size : goal.returns-clause-size
returns-clause-size c = size

replies_first : (v : List ℕ) → is_value v ≡ true → line_of (codes "drill" ∷ codes "--replies" ∷ codes "7" ∷ v ∷ []) ≡ option_map (λ n. Drill 7 n true) (number_of 1 10000 v)
unfolding clap_on_literals
replies_first [] e = absurd (true≢false (sym e))
replies_first (b ∷ bs) e = go (b == 45) refl
  where
    go : (t : Bool) → (b == 45) ≡ t → line_of (codes "drill" ∷ codes "--replies" ∷ codes "7" ∷ (b ∷ bs) ∷ []) ≡ option_map (λ n. Drill 7 n true) (number_of 1 10000 (b ∷ bs))
    go true f = absurd (true≢false (sym e ∙ ap not f))
    go false f = rw f (rw f refl)

pub returns-clause-replies_first : goal.returns-clause-replies_first
returns-clause-replies_first c = replies_first

replies_between : (v : List ℕ) → is_value v ≡ true → line_of (codes "drill" ∷ codes "7" ∷ codes "--replies" ∷ v ∷ []) ≡ option_map (λ n. Drill 7 n true) (number_of 1 10000 v)
unfolding clap_on_literals
replies_between [] e = absurd (true≢false (sym e))
replies_between (b ∷ bs) e = go (b == 45) refl
  where
    go : (t : Bool) → (b == 45) ≡ t → line_of (codes "drill" ∷ codes "7" ∷ codes "--replies" ∷ (b ∷ bs) ∷ []) ≡ option_map (λ n. Drill 7 n true) (number_of 1 10000 (b ∷ bs))
    go true f = absurd (true≢false (sym e ∙ ap not f))
    go false f = rw f (rw f refl)

pub returns-clause-replies_between : goal.returns-clause-replies_between
returns-clause-replies_between c = replies_between

replies_last : (v : List ℕ) → is_value v ≡ true → line_of (codes "drill" ∷ codes "7" ∷ v ∷ codes "--replies" ∷ []) ≡ option_map (λ n. Drill 7 n true) (number_of 1 10000 v)
unfolding clap_on_literals
replies_last [] e = absurd (true≢false (sym e))
replies_last (b ∷ bs) e = go (b == 45) refl
  where
    go : (t : Bool) → (b == 45) ≡ t → line_of (codes "drill" ∷ codes "7" ∷ (b ∷ bs) ∷ codes "--replies" ∷ []) ≡ option_map (λ n. Drill 7 n true) (number_of 1 10000 (b ∷ bs))
    go true f = absurd (true≢false (sym e ∙ ap not f))
    go false f = rw f (rw f refl)

pub returns-clause-replies_last : goal.returns-clause-replies_last
returns-clause-replies_last c = replies_last
