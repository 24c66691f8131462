-- That keys descend has at most one proof.
use Rattle.std.specs.Prelude.{Bool, true, List, [], ◌∷◌}
use Rattle.std.proofs.Math.Bool.{Bool-set}
use Rattle.std.specs.Coded.{×_prop, Unit-prop}
use Rattle.table_edits.specs.EditsAt.{KeysBefore, KeysDescend}

module _ {K : Type 0} (before : K → K → Bool) where
  KeysBefore-prop : (k : K) (ks : List K) → IsProp (KeysBefore before k ks)
  KeysBefore-prop k [] = Unit-prop
  KeysBefore-prop k (q ∷ qs) = ×_prop (Bool-set (before q k) true) (KeysBefore-prop k qs)

  pub KeysDescend-prop : (ks : List K) → IsProp (KeysDescend before ks)
  KeysDescend-prop [] = Unit-prop
  KeysDescend-prop (k ∷ ks) = ×_prop (KeysBefore-prop k ks) (KeysDescend-prop ks)
