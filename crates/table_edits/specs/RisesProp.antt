-- That rows ascend has at most one proof.
use Rattle.std.specs.Prelude.{Bool, true, List, [], ◌∷◌}
use Rattle.std.proofs.Math.Bool.{Bool-set}
use Rattle.std.specs.Coded.{×_prop, Unit-prop}
use Rattle.plane_types.specs.Keyed.{AllAfter, Rises}

module _ {K R : Type 0} (before : K → K → Bool) where
  AllAfter-prop : (k : K) (xs : List (K × R)) → IsProp (AllAfter before k xs)
  AllAfter-prop k [] = Unit-prop
  AllAfter-prop k (x ∷ xs) = ×_prop (Bool-set (before k x.0) true) (AllAfter-prop k xs)

  pub Rises-prop : (xs : List (K × R)) → IsProp (Rises before xs)
  Rises-prop [] = Unit-prop
  Rises-prop (x ∷ xs) = ×_prop (AllAfter-prop x.0 xs) (Rises-prop xs)
