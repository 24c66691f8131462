-- Lists in ascending order, and the order of prefixes.
use Rattle.std.specs.Prelude.{Bool, List, [], ◌∷◌, if◌then◌else◌, ◌&&◌, ◌||◌, nat_lt}
use Rattle.net_addr.specs.Ordered.{addr_before, same_place}
use Rattle.net_addr.specs.Prefixes.{Prefix}

-- an element in front of the first one that isn't before it
unfoldable pub put_in : {X : Type 0} → (X → X → Bool) → X → List X → List X
put_in before x [] = x ∷ []
put_in before x (y ∷ ys) = if before y x then y ∷ put_in before x ys else x ∷ y ∷ ys

-- in order; of two elements of which neither is before the other, the first comes first
unfoldable pub ascending : {X : Type 0} → (X → X → Bool) → List X → List X
ascending before [] = []
ascending before (x ∷ xs) = put_in before x (ascending before xs)

-- by the address, and then by the length
abbrev pub prefix_before : Prefix → Prefix → Bool
prefix_before a b = addr_before a.base b.base || (same_place a.base b.base && nat_lt a.len b.len)
