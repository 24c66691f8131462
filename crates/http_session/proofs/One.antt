-- Two accounts of one input agree.
use Rattle.std.proofs.Common.{ap, [], ◌∷◌, ◌≡◌, ℕ, List, refl, sym, ap₂, subst, ◌∙◌}
use Rattle.http_heads.specs.Heads.{Asked, IsWaiting}
use Rattle.http_heads.proofs.Unique.{one_request, whole_waits_not}
use Rattle.http_session.specs.Told.{Told, Answered, StoreFailed, NoMemory, Fixed, Stage}
use Rattle.http_session.specs.Accounts.{AllAnswered, IsFunctional}
use Rattle.http_session.specs.Serves.{Answers}

module _ {W : Type 0} (step : W → Asked → List ℕ → W → Type 0) (fixed : Fixed W) (functional : IsFunctional step) where
  -- where both accounts answer every request by the machine and wait then, they are one
  pub one_account : (v w x y : Stage W) (bytes left rest : List ℕ) (ts us : List Told) → v.world ≡ w.world → AllAnswered ts → AllAnswered us
      → Answers step fixed v bytes ts x left → IsWaiting left → Answers step fixed w bytes us y rest → IsWaiting rest → (ts ≡ us) × (x.world ≡ y.world) × (left ≡ rest)
  one_account v w x y bytes left rest [] [] start ta ua p waits q waits_too = (refl, ap (λ (s : Stage W). s.world) p.0 ∙ start ∙ sym (ap (λ (s : Stage W). s.world) q.0), p.1 ∙ sym q.1)
  one_account v w x y bytes left rest [] (u ∷ us) start ta ua p waits q waits_too = absurd (whole_waits_not bytes q.0 q.1 q.2 (subst IsWaiting p.1 waits))
  one_account v w x y bytes left rest (t ∷ ts) [] start ta ua p waits q waits_too = absurd (whole_waits_not bytes p.0 p.1 p.2 (subst IsWaiting q.1 waits_too))
  one_account v w x y bytes left rest (Answered r ∷ ts) (Answered s ∷ us) start ta ua p waits q waits_too =
      let same = one_request bytes p.0 q.0 p.1 q.1 p.2 q.2 in
      let moved : step w.world q.0 r p.4.0.world = subst (λ a. step w.world a r p.4.0.world) same.0 (subst (λ u. step u p.0 r p.4.0.world) start p.4.1.moves) in
      let one = functional w.world q.0 r s p.4.0.world q.4.0.world moved q.4.1.moves in
      let later = one_account p.4.0 q.4.0 x y q.1 left rest ts us one.1 ta ua (subst (λ b. Answers step fixed p.4.0 b ts x left) same.1 p.4.2) waits q.4.2 waits_too in
      (ap₂ (λ a l. Answered a ∷ l) one.0 later.0, later.1, later.2)
  one_account v w x y bytes left rest (StoreFailed r ∷ ts) (u ∷ us) start ta ua p waits q waits_too = absurd ta
  one_account v w x y bytes left rest (NoMemory r ∷ ts) (u ∷ us) start ta ua p waits q waits_too = absurd ta
  one_account v w x y bytes left rest (Answered r ∷ ts) (StoreFailed s ∷ us) start ta ua p waits q waits_too = absurd ua
  one_account v w x y bytes left rest (Answered r ∷ ts) (NoMemory s ∷ us) start ta ua p waits q waits_too = absurd ua
