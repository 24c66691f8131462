-- How many more rows the tables of a host take in without memory, and how many tracked entries.
use Rattle.std.specs.Prelude.{ℕ}

pub record TableRoom : Type 0 where
  pub tags : ℕ
  pub taps : ℕ
  pub filters : ℕ
  pub sets : ℕ
  pub bridge : ℕ
  pub inward : ℕ
  pub neighbours : ℕ
  pub routers : ℕ
  pub routes : ℕ
  pub floats : ℕ
  pub leases : ℕ

-- what a host takes in
pub record Room : Type 0 where
  pub entries : ℕ
  pub tables : TableRoom
