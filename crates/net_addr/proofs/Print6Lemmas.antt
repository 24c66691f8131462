-- The longest run of zeros, from the last group to the first.
use Rattle.std.proofs.Common.{◌≡◌, ℕ, zero, suc, ◌+◌, ◌<◌, ◌≤◌, List, [], ◌∷◌, length, drop, get_or, Bool, true, false, nat_le, if◌then◌else◌, refl, sym, ap, ◌∙◌, arith}
use Rattle.std.proofs.Math.Seq.{drop-cons}
use Rattle.std.proofs.lemmas.Bool.Decides.{nat_tests}
use Rattle.net_addr.specs.Printing6.{Run, zeros, longest, longer}

-- the run of zeros at a place, and the longest one from there on
pub record Scanned (gs : List ℕ) (place zs at len : ℕ) : Type 0 where
  pub zeros_are : zs ≡ zeros (drop place gs)
  pub longest_is : longest place (drop place gs) ≡ record { at = at; len = len }

drop_all : (gs : List ℕ) → drop (length gs) gs ≡ []
drop_all [] = refl
drop_all (g ∷ gs) = drop_all gs

pub scan_begins : (gs : List ℕ) → Scanned gs (length gs) 0 (length gs) 0
scan_begins gs = record { zeros_are = ap zeros (sym (drop_all gs)); longest_is = ap (longest (length gs)) (drop_all gs) }

next : (gs : List ℕ) (p q : ℕ) → q ≡ p + 1 → p < length gs → drop p gs ≡ get_or gs p 0 ∷ drop q gs
next gs p q e l =
    let s : suc p ≡ q = omega (arith, e) in
    drop-cons gs p 0 l ∙ ap (λ (k : ℕ). get_or gs p 0 ∷ drop k gs) s

zeros_at : (g z : ℕ) (rest : List ℕ) → g ≡ 0 → z ≡ zeros rest → z + 1 ≡ zeros (g ∷ rest)
zeros_at zero z rest e f = ap (λ (n : ℕ). n + 1) f
zeros_at (suc g) z rest e f = absurd (omega (arith, e))

none_at : (g : ℕ) (rest : List ℕ) → 0 < g → 0 ≡ zeros (g ∷ rest)
none_at zero rest l = absurd (omega (arith, l))
none_at (suc g) rest l = refl

pub zeros_more : (gs : List ℕ) (p q zs at len : ℕ) → q ≡ p + 1 → p < length gs → Scanned gs q zs at len → get_or gs p 0 ≡ 0 → zs + 1 ≡ zeros (drop p gs)
zeros_more gs p q zs at len e l s z = zeros_at (get_or gs p 0) zs (drop q gs) z s.zeros_are ∙ ap zeros (sym (next gs p q e l))

pub zeros_none : (gs : List ℕ) (p q : ℕ) → q ≡ p + 1 → p < length gs → 0 < get_or gs p 0 → 0 ≡ zeros (drop p gs)
zeros_none gs p q e l z = none_at (get_or gs p 0) (drop q gs) z ∙ ap zeros (sym (next gs p q e l))

-- the longest run from one place on, by that from the next place on
longest_at : (gs : List ℕ) (p q zs at len z : ℕ) → q ≡ p + 1 → p < length gs → Scanned gs q zs at len → z ≡ zeros (drop p gs)
    → longest p (drop p gs) ≡ longer (record { at = p; len = z }) (record { at = at; len = len })
longest_at gs p q zs at len z e l s f =
    let d = next gs p q e l in
    let z' : zeros (get_or gs p 0 ∷ drop q gs) ≡ z = ap zeros (sym d) ∙ sym f in
    ap (longest p) d
    ∙ ap (λ (k : ℕ). longer (record { at = p; len = zeros (get_or gs p 0 ∷ drop q gs) }) (longest k (drop q gs))) (sym e)
    ∙ ap (λ (r : Run). longer (record { at = p; len = zeros (get_or gs p 0 ∷ drop q gs) }) r) s.longest_is
    ∙ ap (λ (k : ℕ). longer (record { at = p; len = k }) (record { at = at; len = len })) z'

pub scan_longer : (gs : List ℕ) (p q zs at len z : ℕ) → q ≡ p + 1 → p < length gs → Scanned gs q zs at len → z ≡ zeros (drop p gs) → len ≤ z → Scanned gs p z p z
scan_longer gs p q zs at len z e l s f le =
    let t : nat_le len z ≡ true = grind (arith, nat_tests) in
    record { zeros_are = f; longest_is = longest_at gs p q zs at len z e l s f ∙ ap (λ (b : Bool). if b then record { at = p; len = z } else record { at = at; len = len }) t }

pub scan_same : (gs : List ℕ) (p q zs at len z : ℕ) → q ≡ p + 1 → p < length gs → Scanned gs q zs at len → z ≡ zeros (drop p gs) → z < len → Scanned gs p z at len
scan_same gs p q zs at len z e l s f lt =
    let t : nat_le len z ≡ false = grind (arith, nat_tests) in
    record { zeros_are = f; longest_is = longest_at gs p q zs at len z e l s f ∙ ap (λ (b : Bool). if b then record { at = p; len = z } else record { at = at; len = len }) t }
