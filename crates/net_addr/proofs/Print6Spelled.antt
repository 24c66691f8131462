-- The printed text of an address of version 6 spells it.
use Rattle.std.proofs.Common.{◌≡◌, ℕ, zero, suc, ◌+◌, ◌-◌, ◌*◌, ◌/◌, ◌%◌, ◌^◌, ◌<◌, ◌≤◌, Bool, true, false, ◌==◌, nat_le, nat_lt, if◌then◌else◌, List, [], ◌∷◌, ◌++◌, length, take, drop, codes, inl, inr, refl, sym, subst, ap, ◌∙◌, arith, append_assoc}
use Rattle.std.proofs.Math.Pow.{pow-add}
use Rattle.std.proofs.lemmas.Bool.Decides.{nat_tests}
use Rattle.std.proofs.lemmas.Fmt.{digits_is_IsNumeral}
use Rattle.std.proofs.lemmas.List.{append-nil, drop-drop, length-drop, length-take-le, take-append-drop}
use Rattle.std.specs.Fmt.{digit_glyph, digits, digits_onto}
use Rattle.net_addr.specs.Addresses.{IsAddr, width}
use Rattle.net_addr.specs.Prefixes.{Prefix}
use Rattle.net_addr.specs.Printing6.{Run, address6_text, groups, longest, more_text, row_text, short_text, zeros}
use Rattle.net_addr.specs.Spelling.{Spells, SpellsAddr, SpellsAddress6, SpellsCidr, addr_text, prefix_text, row_parts, shortened_parts}
use Rattle.net_addr.specs.declared.address.Addr.{Addr}
use Rattle.net_addr.specs.declared.address.Addr.TheVariants.{V4, V6}
use Rattle.net_addr.specs.declared.spelling.Part.{Part}
use Rattle.net_addr.specs.declared.spelling.Part.TheVariants.{Mark, Group, Gap}
use Rattle.net_addr.proofs.PrintLemmas.{address_spelled}

-- a number of 16 bits has at most four hexadecimal digits
if_short : (b : Bool) (x y : List ℕ) (m : ℕ) → length x ≤ m → length y ≤ m → length (if b then x else y) ≤ m
if_short true x y m hx hy = hx
if_short false x y m hx hy = hy

onto_short : (k j n : ℕ) (acc : List ℕ) → j ≤ k → n < 2 ^ (4 * suc j)
    → length (digits_onto (suc k) 16 false n acc) ≤ suc j + length acc
onto_short zero j n acc l h = if_short (n / 16 == 0) (digit_glyph false (n % 16) ∷ acc) (digit_glyph false (n % 16) ∷ acc) (suc j + length acc) (omega arith) (omega arith)
onto_short (suc k) zero n acc l h =
    let few : n < 16 = h in
    let e : (n / 16 == 0) ≡ true = grind (arith, nat_tests) in
    rw e (omega arith)
onto_short (suc k) (suc j) n acc l h =
    let s : 4 * suc j + 4 ≡ 4 * suc (suc j) = omega arith in
    let p : 2 ^ (4 * suc j) * 16 ≡ 2 ^ (4 * suc (suc j)) = sym (pow-add 2 (4 * suc j) 4) ∙ ap (λ (m : ℕ). 2 ^ m) s in
    let fewer : n / 16 < 2 ^ (4 * suc j) = omega (arith, h, p) in
    let rest = onto_short k j (n / 16) (digit_glyph false (n % 16) ∷ acc) (omega (arith, l)) fewer in
    if_short (n / 16 == 0) (digit_glyph false (n % 16) ∷ acc) (digits_onto (suc k) 16 false (n / 16) (digit_glyph false (n % 16) ∷ acc)) (suc (suc j) + length acc)
    (omega arith) (omega (arith, rest))

hex_short : (n : ℕ) → n < 2 ^ 16 → length (digits 16 false n) ≤ 4
unfolding digits
hex_short n h = omega (arith, onto_short 63 3 n [] (omega arith) h)

group_spelled : (g : ℕ) (parts : List Part) (v : ℕ) (rest : List ℕ) (n : ℕ) → g < 2 ^ 16
    → Spells parts (v * 2 ^ 16 + g) rest n → Spells (Group ∷ parts) v (digits 16 false g ++ rest) n
unfolding Spells
group_spelled g parts v rest n h s =
    let d = digits_is_IsNumeral 16 false (omega arith) (omega arith) g (omega (arith, h)) in
    (digits 16 false g, rest, d.0.0, hex_short g h, d.0.1, refl, subst (λ (m : ℕ). Spells parts (v * 2 ^ 16 + m) rest n) (sym d.1) s)

-- groups in base 2^16
abbrev value_of : ℕ → List ℕ → ℕ
value_of v [] = v
value_of v (g ∷ gs) = value_of (v * 2 ^ 16 + g) gs

abbrev AllSmall : List ℕ → Type 0
AllSmall [] = Unit {0}
AllSmall (g ∷ gs) = (g < 2 ^ 16) × AllSmall gs

small_front : (gs : List ℕ) (i : ℕ) → AllSmall gs → AllSmall (take i gs)
small_front [] zero h = tt
small_front [] (suc i) h = tt
small_front (g ∷ gs) zero h = tt
small_front (g ∷ gs) (suc i) h = (h.0, small_front gs i h.1)

small_behind : (gs : List ℕ) (i : ℕ) → AllSmall gs → AllSmall (drop i gs)
small_behind [] zero h = tt
small_behind [] (suc i) h = tt
small_behind (g ∷ gs) zero h = h
small_behind (g ∷ gs) (suc i) h = small_behind gs i h.1

value_along : (xs ys : List ℕ) (v : ℕ) → value_of v (xs ++ ys) ≡ value_of (value_of v xs) ys
value_along [] ys v = refl
value_along (x ∷ xs) ys v = value_along xs ys (v * 2 ^ 16 + x)

value_cut : (gs : List ℕ) (i v : ℕ) → value_of v gs ≡ value_of (value_of v (take i gs)) (drop i gs)
value_cut gs i v = ap (value_of v) (sym (take-append-drop i gs)) ∙ value_along (take i gs) (drop i gs) v

-- groups behind colons, and a row of them
abbrev more_parts : ℕ → List Part
more_parts zero = []
more_parts (suc k) = Mark 58 ∷ Group ∷ more_parts k

row_is : (k : ℕ) → row_parts (suc k) ≡ Group ∷ more_parts k
row_is zero = refl
row_is (suc k) = ap (λ (ps : List Part). Group ∷ Mark 58 ∷ ps) (row_is k)

more_spelled : (gs : List ℕ) (parts : List Part) (v : ℕ) (rest : List ℕ) (n : ℕ) → AllSmall gs
    → Spells parts (value_of v gs) rest n
    → Spells (more_parts (length gs) ++ parts) v (more_text gs ++ rest) n
unfolding Spells
more_spelled [] parts v rest n h s = s
more_spelled (g ∷ gs) parts v rest n h s =
    let e : digits 16 false g ++ (more_text gs ++ rest) ≡ (digits 16 false g ++ more_text gs) ++ rest = sym (append_assoc (digits 16 false g) (more_text gs) rest) in
    let t = group_spelled g (more_parts (length gs) ++ parts) v (more_text gs ++ rest) n h.0 (more_spelled gs parts (v * 2 ^ 16 + g) rest n h.1 s) in
    let count : length (g ∷ gs) ≡ suc (length gs) = omega arith in
    subst (λ (k : ℕ). Spells (more_parts k ++ parts) v (more_text (g ∷ gs) ++ rest) n) (sym count)
    ((digits 16 false g ++ more_text gs) ++ rest, refl, subst (λ (ts : List ℕ). Spells (Group ∷ (more_parts (length gs) ++ parts)) v ts n) e t)

row_spelled : (gs : List ℕ) (parts : List Part) (v : ℕ) (rest : List ℕ) (n : ℕ) → AllSmall gs
    → Spells parts (value_of v gs) rest n
    → Spells (row_parts (length gs) ++ parts) v (row_text gs ++ rest) n
row_spelled [] parts v rest n h s = s
row_spelled (g ∷ gs) parts v rest n h s =
    let e : digits 16 false g ++ (more_text gs ++ rest) ≡ (digits 16 false g ++ more_text gs) ++ rest = sym (append_assoc (digits 16 false g) (more_text gs) rest) in
    let t = group_spelled g (more_parts (length gs) ++ parts) v (more_text gs ++ rest) n h.0 (more_spelled gs parts (v * 2 ^ 16 + g) rest n h.1 s) in
    let count : length (g ∷ gs) ≡ suc (length gs) = omega arith in
    let parts_are : Group ∷ (more_parts (length gs) ++ parts) ≡ row_parts (length (g ∷ gs)) ++ parts =
    ap (λ (ps : List Part). ps ++ parts) (sym (row_is (length gs)) ∙ ap row_parts (sym count)) in
    subst (λ (ps : List Part). Spells ps v (row_text (g ∷ gs) ++ rest) n) parts_are (subst (λ (ts : List ℕ). Spells (Group ∷ (more_parts (length gs) ++ parts)) v ts n) e t)

last_spelled : (gs : List ℕ) (v n : ℕ) → AllSmall gs → n ≡ value_of v gs
    → Spells (row_parts (length gs)) v (row_text gs) n
unfolding Spells
last_spelled gs v n h e =
    let s = row_spelled gs [] v [] n h (refl, e) in
    subst (λ (ps : List Part). Spells ps v (row_text gs) n) (append-nil (row_parts (length gs)))
    (subst (λ (ts : List ℕ). Spells (row_parts (length gs) ++ []) v ts n) (append-nil (row_text gs)) s)

-- the longest run of zeros
zeros_within : (gs : List ℕ) → zeros gs ≤ length gs
zeros_within [] = omega arith
zeros_within (zero ∷ gs) = omega (arith, zeros_within gs)
zeros_within (suc g ∷ gs) = omega arith

zeros_value : (gs : List ℕ) (v : ℕ) → value_of v gs ≡ value_of (v * 2 ^ (16 * zeros gs)) (drop (zeros gs) gs)
zeros_value [] v = omega arith
zeros_value (zero ∷ gs) v =
    let z = zeros gs in
    let s : 16 * (z + 1) ≡ 16 + 16 * z = omega arith in
    let p : 2 ^ (16 * (z + 1)) ≡ 2 ^ 16 * 2 ^ (16 * z) = ap (λ (k : ℕ). 2 ^ k) s ∙ pow-add 2 16 (16 * z) in
    let e : (v * 2 ^ 16 + 0) * 2 ^ (16 * z) ≡ v * 2 ^ (16 * (z + 1)) = omega (arith, ap (λ (k : ℕ). v * k) p) in
    let d : z + 1 ≡ suc z = omega arith in
    zeros_value gs (v * 2 ^ 16 + 0) ∙ ap (λ (k : ℕ). value_of k (drop z gs)) e
    ∙ ap (λ (k : ℕ). value_of (v * 2 ^ (16 * (z + 1))) (drop k (zero ∷ gs))) (sym d)
zeros_value (suc g ∷ gs) v = let e : v ≡ v * 2 ^ (16 * 0) = omega arith in ap (λ (k : ℕ). value_of k (suc g ∷ gs)) e

pub record IsRunOf (gs : List ℕ) (from : ℕ) (run : Run) (i : ℕ) : Type 0 where
  pub place : run.at ≡ from + i
  pub within : i ≤ length gs
  pub many : run.len ≡ zeros (drop i gs)

longer_of : (b : Bool) (g : ℕ) (gs : List ℕ) (from i : ℕ) (r : Run) → IsRunOf gs (from + 1) r i
    → (j : ℕ) × IsRunOf (g ∷ gs) from (if b then (let a : Run = record { at = from; len = zeros (g ∷ gs) } in a) else r) j
longer_of true g gs from i r h = (0, record { place = omega arith; within = omega arith; many = refl })
longer_of false g gs from i r h = (suc i, record { place = omega (arith, h.place); within = omega (arith, h.within); many = h.many })

longest_is : (gs : List ℕ) (from : ℕ) → (i : ℕ) × IsRunOf gs from (longest from gs) i
longest_is [] from = (0, record { place = omega arith; within = omega arith; many = refl })
longest_is (g ∷ gs) from =
    let w = longest_is gs (from + 1) in
    longer_of (nat_le (longest (from + 1) gs).len (zeros (g ∷ gs))) g gs from w.0 (longest (from + 1) gs) w.1

-- the whole text
eight_spelled : (gs : List ℕ) (n : ℕ) → length gs ≡ 8 → AllSmall gs → n ≡ value_of 0 gs
    → SpellsAddress6 (row_text gs) n
unfolding SpellsAddress6
eight_spelled gs n l h e = (row_parts 8, (false, inl refl), subst (λ (k : ℕ). Spells (row_parts k) 0 (row_text gs) n) l (last_spelled gs 0 n h e))

gap_spelled : (gs : List ℕ) (i z n : ℕ) → length gs ≡ 8 → AllSmall gs → 0 < z → i + z ≤ 8
    → n ≡ value_of (value_of 0 (take i gs) * 2 ^ (16 * z)) (drop (i + z) gs)
    → SpellsAddress6 (row_text (take i gs) ++ codes "::" ++ row_text (drop (i + z) gs)) n
unfolding SpellsAddress6 Spells
gap_spelled gs i z n l h some few e =
    let r = 8 - (i + z) in
    let v = value_of 0 (take i gs) in
    let left : length (take i gs) ≡ i = length-take-le i gs (omega (arith, l, few)) in
    let right : length (drop (i + z) gs) ≡ r = length-drop (i + z) gs ∙ ap (λ (k : ℕ). k - (i + z)) l in
    let count : z ≡ 8 - (i + r) = omega (arith, few) in
    let t = subst (λ (k : ℕ). Spells (row_parts k) (v * 2 ^ (16 * z)) (row_text (drop (i + z) gs)) n) right (last_spelled (drop (i + z) gs) (v * 2 ^ (16 * z)) n (small_behind gs (i + z) h) e) in
    let u : Spells (Mark 58 ∷ Gap z ∷ row_parts r) v (58 ∷ 58 ∷ row_text (drop (i + z) gs)) n = (58 ∷ row_text (drop (i + z) gs), refl, (row_text (drop (i + z) gs), refl, t)) in
    let s = row_spelled (take i gs) (Mark 58 ∷ Gap z ∷ row_parts r) 0 (58 ∷ 58 ∷ row_text (drop (i + z) gs)) n (small_front gs i h) u in
    let s' = subst (λ (k : ℕ). Spells (row_parts k ++ (Mark 58 ∷ Gap z ∷ row_parts r)) 0 (row_text (take i gs) ++ (58 ∷ 58 ∷ row_text (drop (i + z) gs))) n) left s in
    let s'' = subst (λ (k : ℕ). Spells (row_parts i ++ (Mark 58 ∷ Gap k ∷ row_parts r)) 0 (row_text (take i gs) ++ (58 ∷ 58 ∷ row_text (drop (i + z) gs))) n) count s' in (
      shortened_parts false i r,
      (false, inr (i, r, omega (arith, few, some), refl)),
      subst (λ (ts : List ℕ). Spells (shortened_parts false i r) 0 ts n) (sym (append_assoc (row_text (take i gs)) (codes "::") (row_text (drop (i + z) gs)))) s'',
    )

run_spelled : (gs : List ℕ) (n i : ℕ) (run : Run) → length gs ≡ 8 → AllSmall gs → n ≡ value_of 0 gs
    → IsRunOf gs 0 run i → SpellsAddress6 (short_text gs run) n
run_spelled gs n i run l h e w = by (nat_lt run.len 2) refl
  where
    by : (b : Bool) → nat_lt run.len 2 ≡ b
        → SpellsAddress6 (if b then row_text gs else (row_text (take run.at gs) ++ codes "::" ++ row_text (drop (run.at + run.len) gs))) n
    by true f = eight_spelled gs n l h e
    by false f =
        let place : run.at ≡ i = omega (arith, w.place) in
        let many : 2 ≤ run.len = grind (arith, nat_tests) in
        let few : run.len ≤ length (drop i gs) = omega (arith, w.many, zeros_within (drop i gs)) in
        let room : run.at + run.len ≤ 8 = omega (arith, place, few, length-drop i gs, l, many) in
        let behind : drop run.len (drop i gs) ≡ drop (i + run.len) gs = drop-drop run.len i gs in
        let value : n ≡ value_of (value_of 0 (take run.at gs) * 2 ^ (16 * run.len)) (drop (run.at + run.len) gs) =
        e ∙ value_cut gs i 0 ∙ zeros_value (drop i gs) (value_of 0 (take i gs))
        ∙ ap (λ (z : ℕ). value_of (value_of 0 (take i gs) * 2 ^ (16 * z)) (drop z (drop i gs))) (sym w.many)
        ∙ ap (λ (ts : List ℕ). value_of (value_of 0 (take i gs) * 2 ^ (16 * run.len)) ts) behind
        ∙ ap (λ (k : ℕ). value_of (value_of 0 (take k gs) * 2 ^ (16 * run.len)) (drop (k + run.len) gs)) (sym place) in
        gap_spelled gs run.at run.len n l h (omega (arith, many)) room value

-- the eight groups of a number
groups_value : (n : ℕ) → n < 2 ^ 128 → n ≡ value_of 0 (groups n)
unfolding groups
groups_value n h = omega arith

groups_small : (n : ℕ) → n < 2 ^ 128 → AllSmall (groups n)
unfolding groups
groups_small n h = (omega arith, (omega arith, (omega arith, (omega arith, (omega arith, (omega arith, (omega arith, (omega arith, tt))))))))

groups_count : (n : ℕ) → length (groups n) ≡ 8
unfolding groups
groups_count n = refl

pub address6_spelled : (n : ℕ) → n < 2 ^ 128 → SpellsAddress6 (address6_text n) n
unfolding address6_text
address6_spelled n h =
    let w = longest_is (groups n) 0 in
    run_spelled (groups n) n w.0 (longest 0 (groups n)) (groups_count n) (groups_small n h) (groups_value n h) w.1

-- an address of either version
pub addr_spelled : (a : Addr) → IsAddr a → SpellsAddr (addr_text a) a
addr_spelled (V4 n) h = address_spelled n h
addr_spelled (V6 n) h = address6_spelled n h

-- and a prefix
pub prefix_spelled : (p : Prefix) → IsAddr p.base → p.len ≤ width p.base
    → SpellsCidr (prefix_text p) (record { addr = p.base; len = p.len })
unfolding SpellsCidr prefix_text
prefix_spelled p h l = (addr_text p.base, addr_spelled p.base h, l, refl)
