-- A test decides a statement: it is true exactly if the statement holds.
use Rattle.std.specs.Prelude.{◌≡◌, Bool, true}

abbrev pub Decides : Bool → Type 0 → Type 0
Decides b P = (b ≡ true → P) × (P → b ≡ true)
