-- Texts around two and three others.
use Rattle.std.proofs.Common.{◌≡◌, ℕ, List, ◌++◌, append_assoc}

pub around_two : (a x b y c : List ℕ) → a ++ (x ++ (b ++ (y ++ c))) ≡ a ++ x ++ b ++ y ++ c
around_two a x b y c = simp append_assoc

pub around_three : (a x b y c z d : List ℕ) → a ++ (x ++ (b ++ (y ++ (c ++ (z ++ d))))) ≡ a ++ x ++ b ++ y ++ c ++ z ++ d
around_three a x b y c z d = simp append_assoc
