-- Accounts of one input.
use Rattle.std.specs.Prelude.{◌≡◌, List, [], ◌∷◌, ⊤}
use Rattle.net_addr.specs.Words.{Bytes}
use Rattle.http_heads.specs.Heads.{Asked}
use Rattle.http_session.specs.Told.{Told, Answered, StoreFailed, NoMemory, Transition}

-- every answer is the machine's
abbrev pub AllAnswered : List Told → Type 0
AllAnswered [] = ⊤
AllAnswered (Answered reply ∷ tolds) = AllAnswered tolds
AllAnswered (StoreFailed reply ∷ tolds) = ⊥
AllAnswered (NoMemory reply ∷ tolds) = ⊥

-- the machine's step is a function
abbrev pub IsFunctional : {W : Type 0} → Transition W → Type 0
IsFunctional step =
    (w : _) (asked : Asked) (a b : Bytes) (x y : _) → step w asked a x → step w asked b y
    → (a ≡ b) × (x ≡ y)
