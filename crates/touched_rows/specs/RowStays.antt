-- A row of a kind is as before a change in what tables ask of it.
use Rattle.std.specs.Prelude.{◌≡◌, ⊤, Option, Some, None}
use Rattle.api_types.specs.declared.network.NetworkRow.{NetworkRow}

-- it is there before and after and alike, or isn't there
abbrev pub RowStays : {R : Type 0} → (R → R → Type 0) → Option R → Option R → Type 0
RowStays alike None None = ⊤
RowStays alike (Some old) (Some new) = alike old new
RowStays alike None (Some new) = ⊥
RowStays alike (Some old) None = ⊥

-- a network carries frames as before
pub record CarriesTheSame (old new : NetworkRow) : Type 0 where
  pub up : old.up ≡ new.up
  pub segment : old.segment ≡ new.segment
