-- What contracts see of a keeper.
use Rattle.std.specs.Prelude.{ℕ, refl}
use Rattle.std.specs.Coded.{Coded, code_by, coded×, coded_ℕ}
use Rattle.sqlite.specs.Held.{Held, held_code}

-- a connection, and how many calls failed
pub record CountingConnection (S : Type 0) : Type 0 where
  pub conn : Held S
  pub faults : ℕ

abbrev pub counting_code : {S : Type 0} → Coded S → Coded (CountingConnection S)
counting_code {S} store =
    code_by (Held S × ℕ) (coded× (held_code store) coded_ℕ)
    (λ k. (k.conn, k.faults))
    (λ p. record { conn = p.0; faults = p.1 })
    (λ _. refl)
