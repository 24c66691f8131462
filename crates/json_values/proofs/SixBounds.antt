-- The number of an address of version 6 is below 2^128.
use Rattle.std.proofs.Common.{◌≡◌, ℕ, zero, suc, ◌+◌, ◌-◌, ◌*◌, ◌^◌, ◌<◌, ◌≤◌, ◌⊎◌, inl, inr, Bool, true, false, List, [], ◌∷◌, Option, Some, None, option_map, refl, sym, ap, subst, ◌∙◌, arith}
use Rattle.std.proofs.Math.Nat.{mul-le-mul_right, mul_assoc}
use Rattle.std.proofs.lemmas.Nat.{pow-add}
use Rattle.std.specs.Str.Parse.{digits_value}
use Rattle.net_addr.proofs.ReadingLemmas.{group_small}
use Rattle.net_addr.proofs.FormLemmas.{address6_once}
use Rattle.net_addr.proofs.SpellingLemmas.{power_pos}
use Rattle.net_addr.specs.Addresses.{IsAddr}
use Rattle.net_addr.specs.Spelling.{SpellsAddr, group_count}
use Rattle.net_addr.specs.declared.address.Addr.{Addr}
use Rattle.net_addr.specs.declared.address.Addr.TheVariants.{V4, V6}
use Rattle.json_values.proofs.AddressLemmas.{address_text_of, four_spelled}
use Rattle.json_values.proofs.SixLemmas.{IsSound, below_sound, colon_sound, either, gap_sound, group_sound, six_given, six_spelled}
use Rattle.json_values.specs.Numbers.{four_in}
use Rattle.json_values.specs.Six.{ended, tail, colon, group, before, row, last, gap, shortened, shortened_behind, first_below, six_by, six_in}

-- the number is one of so many for each number that the bits are
abbrev Below : ℕ → ℕ → List ℕ → ℕ → Type 0
Below size bits text n = n + 1 ≤ (bits + 1) * size

-- so many groups in front
abbrev raised : ℕ → ℕ → ℕ
raised zero size = size
raised (suc k) size = 2 ^ 16 * raised k size

group_below : (size : ℕ) (reads : ℕ → List ℕ → Option ℕ) → IsSound reads (Below size) → IsSound (group reads) (Below (2 ^ 16 * size))
group_below size reads s bits text n e =
    let (ds, rest, some, few, digits, is, b) = group_sound reads (Below size) s bits text n e in
    let small = group_small ds few digits in
    let less : bits * 2 ^ 16 + digits_value 16 ds + 1 ≤ (bits + 1) * 2 ^ 16 = omega arith in
    omega (arith, b, mul-le-mul_right size less)

before_below : (k size : ℕ) (reads : ℕ → List ℕ → Option ℕ) → IsSound reads (Below size) → IsSound (before k reads) (Below (raised k size))
before_below zero size reads s bits text n e = s bits text n e
before_below (suc k) size reads s bits text n e =
    group_below (raised k size) (colon (before k reads))
    (λ b t m f. let w = colon_sound (before k reads) (Below (raised k size)) (before_below k size reads s) b t m f in w.2) bits text n e

raised_within : (k size : ℕ) → raised k (2 ^ 16 * size) ≡ 2 ^ 16 * raised k size
raised_within zero size = refl
raised_within (suc k) size = ap (λ (m : ℕ). 2 ^ 16 * m) (raised_within k size)

row_below : (k size : ℕ) (reads : ℕ → List ℕ → Option ℕ) → IsSound reads (Below size) → IsSound (row k reads) (Below (raised k size))
row_below zero size reads s bits text n e = s bits text n e
row_below (suc k) size reads s bits text n e =
    subst (λ (m : ℕ). Below m bits text n) (raised_within k size) (before_below k (2 ^ 16 * size) (group reads) (group_below size reads s) bits text n e)

ended_below : IsSound ended (Below 1)
ended_below bits [] n e = let same : bits ≡ n = cc in omega (arith, same)
ended_below bits (b ∷ text) n e = absurd cc

tail_by : (o : Option ℕ) (text : List ℕ) (bits n : ℕ) → four_in text ≡ o → option_map (λ m. bits * 2 ^ 32 + m) o ≡ Some n → n + 1 ≤ (bits + 1) * 2 ^ 32
tail_by None text bits n is e = absurd cc
tail_by (Some m) text bits n is e =
    let same : bits * 2 ^ 32 + m ≡ n = cc in
    let p = address_text_of text m (four_spelled text m is) in
    omega (arith, same, p.0)

tail_below : IsSound tail (Below (2 ^ 32))
tail_below bits text n e = tail_by (four_in text) text bits n refl e

-- what an end without groups has
abbrev end_size : Bool → ℕ
end_size false = 1
end_size true = 2 ^ 32

last_below : (has_tail : Bool) (k : ℕ) → IsSound (last has_tail k) (Below (raised k (end_size has_tail)))
last_below false k = row_below k 1 ended ended_below
last_below true k = before_below k (2 ^ 32) tail tail_below

power_more : (k : ℕ) → 2 ^ (16 * suc k) ≡ 2 ^ 16 * 2 ^ (16 * k)
power_more k = let e : 16 * suc k ≡ 16 + 16 * k = omega arith in ap (λ (m : ℕ). 2 ^ m) e ∙ pow-add 2 16 (16 * k)

raised_is : (k size : ℕ) → raised k size ≡ 2 ^ (16 * k) * size
raised_is zero size = omega arith
raised_is (suc k) size =
    let p = power_more k in
    let q = raised_is k size in
    ap (λ (m : ℕ). 2 ^ 16 * m) q ∙ sym (mul_assoc (2 ^ 16) (2 ^ (16 * k)) size) ∙ ap (λ (m : ℕ). m * size) (sym p)

gap_below : (k size : ℕ) (reads : ℕ → List ℕ → Option ℕ) → IsSound reads (Below size) → IsSound (gap k reads) (Below (raised k size))
gap_below k size reads s bits text n e =
    let (rest, is, (more, also, b)) = gap_sound k reads (Below size) s bits text n e in
    let some = power_pos (16 * k) in
    let less : bits * 2 ^ (16 * k) + 1 ≤ (bits + 1) * 2 ^ (16 * k) = omega (arith, some) in
    let whole : n + 1 ≤ (bits + 1) * 2 ^ (16 * k) * size = omega (arith, b, mul-le-mul_right size less) in
    let same : (bits + 1) * 2 ^ (16 * k) * size ≡ (bits + 1) * raised k size = mul_assoc (bits + 1) (2 ^ (16 * k)) size ∙ ap (λ (m : ℕ). (bits + 1) * m) (sym (raised_is k size)) in
    subst (λ (m : ℕ). n + 1 ≤ m) same whole

raised_both : (a b size : ℕ) → raised a (raised b size) ≡ raised (a + b) size
raised_both zero b size = let same : b ≡ zero + b = omega arith in ap (λ (k : ℕ). raised k size) same
raised_both (suc a) b size =
    let same : suc (a + b) ≡ suc a + b = omega arith in
    ap (λ (m : ℕ). 2 ^ 16 * m) (raised_both a b size) ∙ ap (λ (k : ℕ). raised k size) same

shortened_below : (has_tail : Bool) (left right : ℕ) → left + right < group_count has_tail → IsSound (shortened has_tail left right) (Below (raised (group_count has_tail) (end_size has_tail)))
shortened_below has_tail left right l bits text n e =
    let size = end_size has_tail in
    let k = group_count has_tail - (left + right) in
    let b = row_below left (raised k (raised right size)) (gap k (last has_tail right)) (gap_below k (raised right size) (last has_tail right) (last_below has_tail right)) bits text n e in
    let sum : left + (k + right) ≡ group_count has_tail = omega (arith, l) in
    let same : raised left (raised k (raised right size)) ≡ raised (group_count has_tail) size =
    ap (raised left) (raised_both k right size) ∙ raised_both left (k + right) size ∙ ap (λ (j : ℕ). raised j size) sum in
    subst (λ (m : ℕ). Below m bits text n) same b

by_below : (has_tail : Bool) (text : List ℕ) (n : ℕ) → six_by has_tail text ≡ Some n → n + 1 ≤ raised (group_count has_tail) (end_size has_tail)
by_below has_tail text n e = go (either (last has_tail (group_count has_tail) 0 text) (first_below (group_count has_tail) (shortened_behind has_tail text)) n e)
  where
    go : (last has_tail (group_count has_tail) 0 text ≡ Some n) ⊎ (first_below (group_count has_tail) (shortened_behind has_tail text) ≡ Some n) → n + 1 ≤ raised (group_count has_tail) (end_size has_tail)
    go (inl f) = let b = last_below has_tail (group_count has_tail) 0 text n f in omega (arith, b)
    go (inr f) =
        let l = below_sound (group_count has_tail) (shortened_behind has_tail text) n f in
        let r = below_sound (group_count has_tail - l.0) (λ right. shortened has_tail l.0 right 0 text) n l.2 in
        let b = shortened_below has_tail l.0 r.0 (omega (arith, l.1, r.1)) 0 text n r.2 in
        omega (arith, b)

pub six_small : (text : List ℕ) (n : ℕ) → six_in text ≡ Some n → n < 2 ^ 128
unfolding six_in
six_small text n e = go (either (six_by false text) (six_by true text) n e)
  where
    go : (six_by false text ≡ Some n) ⊎ (six_by true text ≡ Some n) → n < 2 ^ 128
    go (inl f) = let b : n + 1 ≤ 2 ^ 128 = by_below false text n f in omega (arith, b)
    go (inr f) = let b : n + 1 ≤ 2 ^ 128 = by_below true text n f in omega (arith, b)

-- the number of an address that a text spells fits its version
pub addr_fits : (text : List ℕ) (a : Addr) → SpellsAddr text a → IsAddr a
addr_fits text (V4 n) h = (address_text_of text n h).0
addr_fits text (V6 n) h =
    let g = six_given text n h in
    let same : g.0 ≡ n = address6_once text g.0 n (six_spelled text g.0 g.1) h in
    subst (λ (k : ℕ). k < 2 ^ 128) same (six_small text g.0 g.1)
