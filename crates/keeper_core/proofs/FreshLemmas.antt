-- Ends that never fail haven't failed.
use Rattle.std.proofs.Common.{List, [], ◌∷◌, IsTrue, refl}
use Rattle.keeper_core.specs.Desk.{are_fresh}
use Rattle.keeper_core.specs.Ends.{Unread, Written, sure_unread, sure_written}

pub sure_are_fresh : (pairs : List (Unread × Written)) → IsTrue (are_fresh sure_unread sure_written pairs)
sure_are_fresh [] = refl
sure_are_fresh (pair ∷ pairs) = sure_are_fresh pairs
