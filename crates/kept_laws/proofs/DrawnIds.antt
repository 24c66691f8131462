-- Two ids of one drawing differ.
use Rattle.std.proofs.Common.{lit<, arith, false, ◌<◌, ◌≡◌, ◌+◌, ℕ}
use Rattle.api_types.proofs.NameLemmas.{and_fails}
use Rattle.api_types.specs.Registration.{Drawing, drawn_id}
use Rattle.api_types.specs.Table.{ident_eq}
use Rattle.std.proofs.lemmas.Bool.Decides.{nat_tests}
use Rattle.std.specs.Prelude.{◌==◌}

-- two ids of one drawing differ
pub drawn_differ : (d : Drawing) (j k : ℕ) → j < k → ident_eq (drawn_id d k) (drawn_id d j) ≡ false
drawn_differ d j k less = and_fails (d.ordinal == d.ordinal) ((d.first + k) == (d.first + j)) (later d.first)
  where
    later : (n : ℕ) → ((n + k) == (n + j)) ≡ false
    later n = grind (arith, nat_tests, less)
