-- Texts of addresses of version 6, read.
use Rattle.std.proofs.Common.{◌≡◌, ℕ, zero, suc, ◌+◌, ◌-◌, ◌*◌, ◌^◌, ◌<◌, ◌≤◌, ◌⊎◌, inl, inr, Bool, true, false, ◌&&◌, List, [], ◌∷◌, ◌++◌, length, take, drop, Option, Some, None, refl, sym, ap, subst, ◌∙◌, arith, append_assoc}
use Rattle.std.specs.Prelude.{if◌then◌else◌, nat_le, option_map, ◌==◌}
use Rattle.std.specs.Char.{digit_value}
use Rattle.std.specs.List.{list_all}
use Rattle.std.specs.Str.Parse.{AllDigits, digits_value}
use Rattle.std.proofs.Math.Seq.{take-append_seam, drop-append_seam}
use Rattle.std.proofs.lemmas.Bool.{cases_lt}
use Rattle.std.proofs.lemmas.Bool.Decides.{nat_tests}
use Rattle.std.proofs.lemmas.List.{length-append, length-take-le, take-append-drop}
use Rattle.net_addr.specs.Spelling.{Spells, SpellsAddress, SpellsAddress6, IsAddress6Text, address_parts, end_parts, group_count, groups_before, row_parts, shortened_parts}
use Rattle.net_addr.proofs.FormLemmas.{address_once}
use Rattle.json_values.proofs.AddressLemmas.{four_read, four_spelled}
use Rattle.json_values.specs.Numbers.{four_in}
use Rattle.json_values.specs.Six.{or_else, ended, colon, is_hex, has_digits, digits, group, before, row, tail, last, gap, shortened, shortened_behind, first_below, six_by, six_in}

-- a reader gives only numbers of which this holds
abbrev pub IsSound : (ℕ → List ℕ → Option ℕ) → (ℕ → List ℕ → ℕ → Type 0) → Type 0
IsSound reads P = (bits : ℕ) (text : List ℕ) (n : ℕ) → reads bits text ≡ Some n → P bits text n

-- a number is given
abbrev pub IsGiven : Option ℕ → Type 0
IsGiven o = (m : ℕ) × (o ≡ Some m)

-- and one wherever it holds of one
abbrev IsWhole : (ℕ → List ℕ → Option ℕ) → (ℕ → List ℕ → ℕ → Type 0) → Type 0
IsWhole reads P = (bits : ℕ) (text : List ℕ) (n : ℕ) → P bits text n → IsGiven (reads bits text)

pub either : (a b : Option ℕ) (n : ℕ) → or_else a b ≡ Some n → (a ≡ Some n) ⊎ (b ≡ Some n)
either None b n e = inr e
either (Some m) b n e = inl e

first : (a b : Option ℕ) → IsGiven a → IsGiven (or_else a b)
first None b (m, e) = absurd cc
first (Some k) b g = (k, refl)

second : (a b : Option ℕ) → IsGiven b → IsGiven (or_else a b)
second None b g = g
second (Some k) b g = (k, refl)

if_is : (b : Bool) (o : Option ℕ) (n : ℕ) → (if b then o else None) ≡ Some n → (b ≡ true) × (o ≡ Some n)
if_is true o n e = (refl, e)
if_is false o n e = absurd cc

if_given : (b : Bool) (o : Option ℕ) → b ≡ true → IsGiven o → IsGiven (if b then o else None)
if_given true o e g = g
if_given false o e g = absurd cc

both : (a b : Bool) → (a && b) ≡ true → (a ≡ true) × (b ≡ true)
both true b h = (refl, h)
both false b h = absurd cc

and_both : (a b : Bool) → a ≡ true → b ≡ true → (a && b) ≡ true
and_both true b h e = e
and_both false b h e = absurd cc

-- ---- a colon

abbrev pub Colon : (ℕ → List ℕ → ℕ → Type 0) → ℕ → List ℕ → ℕ → Type 0
Colon P bits text n = (rest : List ℕ) × (text ≡ 58 ∷ rest) × P bits rest n

pub colon_sound : (reads : ℕ → List ℕ → Option ℕ) (P : ℕ → List ℕ → ℕ → Type 0) → IsSound reads P → IsSound (colon reads) (Colon P)
colon_sound reads P s bits [] n e = absurd cc
colon_sound reads P s bits (b ∷ text) n e =
    let p = if_is (b == 58) (reads bits text) n e in
    let same : b ≡ 58 = grind (arith, nat_tests) in
    (text, ap (λ (c : ℕ). c ∷ text) same, s bits text n p.1)

colon_whole : (reads : ℕ → List ℕ → Option ℕ) (P : ℕ → List ℕ → ℕ → Type 0) → IsWhole reads P → IsWhole (colon reads) (Colon P)
colon_whole reads P w bits text n (rest, e, p) = subst (λ (t : List ℕ). IsGiven (colon reads bits t)) (sym e) (w bits rest n p)

-- ---- a group

abbrev pub Group : (ℕ → List ℕ → ℕ → Type 0) → ℕ → List ℕ → ℕ → Type 0
Group P bits text n = (ds : List ℕ) × (rest : List ℕ) × (0 < length ds) × (length ds ≤ 4) × AllDigits 16 ds × (text ≡ ds ++ rest) × P (bits * 2 ^ 16 + digits_value 16 ds) rest n

are_digits : (ds : List ℕ) → list_all is_hex ds ≡ true → AllDigits 16 ds
are_digits [] h = tt
are_digits (d ∷ ds) h = let p = both (is_hex d) (list_all is_hex ds) h in let less : digit_value d < 16 = grind (arith, nat_tests) in (less, are_digits ds p.1)

all_hex : (ds : List ℕ) → AllDigits 16 ds → list_all is_hex ds ≡ true
all_hex [] h = refl
all_hex (d ∷ ds) h = let less : is_hex d ≡ true = let l = h.0 in grind (arith, nat_tests) in and_both (is_hex d) (list_all is_hex ds) less (all_hex ds h.1)

length_front : (k : ℕ) (text : List ℕ) → k ≤ length text → length (take k text) ≡ k
length_front k text l = length-take-le k text l

digits_sound : (reads : ℕ → List ℕ → Option ℕ) (P : ℕ → List ℕ → ℕ → Type 0) → IsSound reads P → (k : ℕ) → 0 < k → k ≤ 4 → IsSound (digits reads k) (Group P)
digits_sound reads P s k some few bits text n e =
    let p = if_is (has_digits k text) (reads (bits * 2 ^ 16 + digits_value 16 (take k text)) (drop k text)) n e in
    let q = both (nat_le k (length text)) (list_all is_hex (take k text)) p.0 in
    let within : k ≤ length text = grind (arith, nat_tests) in
    let len = length_front k text within in (
      take k text,
      drop k text,
      omega (arith, len, some),
      omega (arith, len, few),
      are_digits (take k text) q.1,
      sym (take-append-drop k text),
      s (bits * 2 ^ 16 + digits_value 16 (take k text)) (drop k text) n p.1,
    )

pub group_sound : (reads : ℕ → List ℕ → Option ℕ) (P : ℕ → List ℕ → ℕ → Type 0) → IsSound reads P → IsSound (group reads) (Group P)
group_sound reads P s bits text n e = one (either _ _ n e)
  where
    one : (digits reads 1 bits text ≡ Some n) ⊎ (or_else (digits reads 2 bits text) (or_else (digits reads 3 bits text) (digits reads 4 bits text)) ≡ Some n) → Group P bits text n
    one (inl e) = digits_sound reads P s 1 (omega arith) (omega arith) bits text n e
    one (inr e) = two (either _ _ n e)
      where
        two : (digits reads 2 bits text ≡ Some n) ⊎ (or_else (digits reads 3 bits text) (digits reads 4 bits text) ≡ Some n) → Group P bits text n
        two (inl e) = digits_sound reads P s 2 (omega arith) (omega arith) bits text n e
        two (inr e) = three (either _ _ n e)
          where
            three : (digits reads 3 bits text ≡ Some n) ⊎ (digits reads 4 bits text ≡ Some n) → Group P bits text n
            three (inl e) = digits_sound reads P s 3 (omega arith) (omega arith) bits text n e
            three (inr e) = digits_sound reads P s 4 (omega arith) (omega arith) bits text n e

digits_whole : (reads : ℕ → List ℕ → Option ℕ) (P : ℕ → List ℕ → ℕ → Type 0) → IsWhole reads P → (k bits : ℕ) (text : List ℕ) (n : ℕ) (ds rest : List ℕ) → length ds ≡ k → AllDigits 16 ds → text ≡ ds ++ rest
    → P (bits * 2 ^ 16 + digits_value 16 ds) rest n → IsGiven (digits reads k bits text)
digits_whole reads P w k bits text n ds rest len are e p =
    let front : take k text ≡ ds = ap (λ (t : List ℕ). take k t) e ∙ ap (λ (j : ℕ). take j (ds ++ rest)) (sym len) ∙ take-append_seam ds rest in
    let back : drop k text ≡ rest = ap (λ (t : List ℕ). drop k t) e ∙ ap (λ (j : ℕ). drop j (ds ++ rest)) (sym len) ∙ drop-append_seam ds rest in
    let size : length text ≡ length ds + length rest = ap length e ∙ length-append ds rest in
    let within : nat_le k (length text) ≡ true = grind (arith, nat_tests) in
    let hex : list_all is_hex (take k text) ≡ true = ap (list_all is_hex) front ∙ all_hex ds are in
    let given : IsGiven (reads (bits * 2 ^ 16 + digits_value 16 (take k text)) (drop k text)) =
    subst (λ (t : List ℕ). IsGiven (reads (bits * 2 ^ 16 + digits_value 16 t) (drop k text))) (sym front)
    (subst (λ (t : List ℕ). IsGiven (reads (bits * 2 ^ 16 + digits_value 16 ds) t)) (sym back) (w _ rest n p)) in
    if_given (has_digits k text) _ (and_both _ _ within hex) given

-- one to four
abbrev Few : ℕ → Type 0
Few k = (k ≡ 1) ⊎ ((k ≡ 2) ⊎ ((k ≡ 3) ⊎ (k ≡ 4)))

few : (k : ℕ) → 0 < k → k ≤ 4 → Few k
few zero some l = absurd (omega (arith, some))
few (suc zero) some l = inl refl
few (suc (suc zero)) some l = inr (inl refl)
few (suc (suc (suc zero))) some l = inr (inr (inl refl))
few (suc (suc (suc (suc zero)))) some l = inr (inr (inr refl))
few (suc (suc (suc (suc (suc k))))) some l = absurd (omega (arith, l))

one_of_four : (a b c d : Option ℕ) (k : ℕ) → Few k → (k ≡ 1 → IsGiven a) → (k ≡ 2 → IsGiven b) → (k ≡ 3 → IsGiven c) → (k ≡ 4 → IsGiven d) → IsGiven (or_else a (or_else b (or_else c d)))
one_of_four a b c d k (inl e) f g h i = first a (or_else b (or_else c d)) (f e)
one_of_four a b c d k (inr (inl e)) f g h i = second a (or_else b (or_else c d)) (first b (or_else c d) (g e))
one_of_four a b c d k (inr (inr (inl e))) f g h i = second a (or_else b (or_else c d)) (second b (or_else c d) (first c d (h e)))
one_of_four a b c d k (inr (inr (inr e))) f g h i = second a (or_else b (or_else c d)) (second b (or_else c d) (second c d (i e)))

group_whole : (reads : ℕ → List ℕ → Option ℕ) (P : ℕ → List ℕ → ℕ → Type 0) → IsWhole reads P → IsWhole (group reads) (Group P)
group_whole reads P w bits text n (ds, rest, some, most, are, e, p) =
    let given : (k : ℕ) → length ds ≡ k → IsGiven (digits reads k bits text) = λ k len. digits_whole reads P w k bits text n ds rest len are e p in
    one_of_four (digits reads 1 bits text) (digits reads 2 bits text) (digits reads 3 bits text) (digits reads 4 bits text)
    (length ds) (few (length ds) some most) (given 1) (given 2) (given 3) (given 4)

-- ---- groups in a row, and what comes behind them

before_sound : (k : ℕ) (reads : ℕ → List ℕ → Option ℕ) (parts : _) → IsSound reads (Spells parts) → IsSound (before k reads) (Spells (groups_before k ++ parts))
unfolding Spells
before_sound zero reads parts s bits text n h = s bits text n h
before_sound (suc k) reads parts s bits text n e =
    group_sound (colon (before k reads)) (Colon (Spells (groups_before k ++ parts)))
    (colon_sound (before k reads) (Spells (groups_before k ++ parts)) (before_sound k reads parts s)) bits text n e

before_whole : (k : ℕ) (reads : ℕ → List ℕ → Option ℕ) (parts : _) → IsWhole reads (Spells parts) → IsWhole (before k reads) (Spells (groups_before k ++ parts))
unfolding Spells
before_whole zero reads parts w bits text n h = w bits text n h
before_whole (suc k) reads parts w bits text n h =
    group_whole (colon (before k reads)) (Colon (Spells (groups_before k ++ parts)))
    (colon_whole (before k reads) (Spells (groups_before k ++ parts)) (before_whole k reads parts w)) bits text n h

row_sound : (k : ℕ) (reads : ℕ → List ℕ → Option ℕ) (parts : _) → IsSound reads (Spells parts) → IsSound (row k reads) (Spells (row_parts k ++ parts))
unfolding Spells
row_sound zero reads parts s bits text n h = s bits text n h
row_sound (suc k) reads parts s bits text n e =
    subst (λ ps. Spells ps bits text n) (sym (append_assoc (groups_before k) (row_parts 1) parts))
    (before_sound k (group reads) (row_parts 1 ++ parts) (group_sound reads (Spells parts) s) bits text n e)

row_whole : (k : ℕ) (reads : ℕ → List ℕ → Option ℕ) (parts : _) → IsWhole reads (Spells parts) → IsWhole (row k reads) (Spells (row_parts k ++ parts))
unfolding Spells
row_whole zero reads parts w bits text n h = w bits text n h
row_whole (suc k) reads parts w bits text n h =
    before_whole k (group reads) (row_parts 1 ++ parts) (group_whole reads (Spells parts) w) bits text n
    (subst (λ ps. Spells ps bits text n) (append_assoc (groups_before k) (row_parts 1) parts) h)

-- ---- the end

ended_sound : IsSound ended (Spells [])
unfolding Spells
ended_sound bits [] n e = (refl, cc)
ended_sound bits (b ∷ text) n e = absurd cc

ended_whole : IsWhole ended (Spells [])
unfolding Spells
ended_whole bits text n (e, same) = subst (λ (t : List ℕ). IsGiven (ended bits t)) (sym e) (bits, refl)

-- an IPv4 text behind some bits
behind_bits : (bits m n : ℕ) (text : List ℕ) → n ≡ bits * 2 ^ 32 + m → SpellsAddress text m → Spells address_parts bits text n
unfolding SpellsAddress Spells
behind_bits bits m n text is (a, r, ha, ea, (s, fa, (b, t, hb, eb, (u, fb, (c, v, hc, ec, (w, fc, (d, x, hd, ed, (none, same)))))))) =
    let value : n ≡ (((bits * 256 + a) * 256 + b) * 256 + c) * 256 + d = omega (arith, same, is) in
    (a, r, ha, ea, (s, fa, (b, t, hb, eb, (u, fb, (c, v, hc, ec, (w, fc, (d, x, hd, ed, (none, value))))))))

four_part : (bits n : ℕ) (text : List ℕ) → Spells address_parts bits text n → (m : ℕ) × SpellsAddress text m
unfolding SpellsAddress Spells
four_part bits n text (a, r, ha, ea, (s, fa, (b, t, hb, eb, (u, fb, (c, v, hc, ec, (w, fc, (d, x, hd, ed, (none, same)))))))) =
    ((((0 * 256 + a) * 256 + b) * 256 + c) * 256 + d, (a, r, ha, ea, (s, fa, (b, t, hb, eb, (u, fb, (c, v, hc, ec, (w, fc, (d, x, hd, ed, (none, refl)))))))))

tail_by : (o : Option ℕ) (text : List ℕ) (bits n : ℕ) → four_in text ≡ o → option_map (λ m. bits * 2 ^ 32 + m) o ≡ Some n → Spells address_parts bits text n
tail_by None text bits n is e = absurd cc
tail_by (Some m) text bits n is e =
    let same : n ≡ bits * 2 ^ 32 + m = cc in
    behind_bits bits m n text same (four_spelled text m is)

tail_sound : IsSound tail (Spells address_parts)
tail_sound bits text n e = tail_by (four_in text) text bits n refl e

tail_whole : IsWhole tail (Spells address_parts)
tail_whole bits text n h =
    let p = four_part bits n text h in
    (bits * 2 ^ 32 + p.0, ap (option_map (λ k. bits * 2 ^ 32 + k)) (sym (four_read text p.0 p.1 (λ m other. address_once text m p.0 other p.1))))

last_sound : (has_tail : Bool) (k : ℕ) → IsSound (last has_tail k) (Spells (end_parts has_tail k))
unfolding Spells
last_sound true k = before_sound k tail address_parts tail_sound
last_sound false zero = ended_sound
last_sound false (suc k) = before_sound k (group ended) (row_parts 1) (group_sound ended (Spells []) ended_sound)

last_whole : (has_tail : Bool) (k : ℕ) → IsWhole (last has_tail k) (Spells (end_parts has_tail k))
unfolding Spells
last_whole true k = before_whole k tail address_parts tail_whole
last_whole false zero = ended_whole
last_whole false (suc k) = before_whole k (group ended) (row_parts 1) (group_whole ended (Spells []) ended_whole)

-- ---- `::`

abbrev pub Gap : ℕ → (ℕ → List ℕ → ℕ → Type 0) → ℕ → List ℕ → ℕ → Type 0
Gap k P = Colon (Colon (λ bits. P (bits * 2 ^ (16 * k))))

pub gap_sound : (k : ℕ) (reads : ℕ → List ℕ → Option ℕ) (P : ℕ → List ℕ → ℕ → Type 0) → IsSound reads P → IsSound (gap k reads) (Gap k P)
gap_sound k reads P s =
    let moved : IsSound (λ bits. reads (bits * 2 ^ (16 * k))) (λ bits. P (bits * 2 ^ (16 * k))) = λ bits. s (bits * 2 ^ (16 * k)) in
    colon_sound (colon (λ bits. reads (bits * 2 ^ (16 * k)))) (Colon (λ bits. P (bits * 2 ^ (16 * k))))
    (colon_sound (λ bits. reads (bits * 2 ^ (16 * k))) (λ bits. P (bits * 2 ^ (16 * k))) moved)

gap_whole : (k : ℕ) (reads : ℕ → List ℕ → Option ℕ) (P : ℕ → List ℕ → ℕ → Type 0) → IsWhole reads P → IsWhole (gap k reads) (Gap k P)
gap_whole k reads P w =
    let moved : IsWhole (λ bits. reads (bits * 2 ^ (16 * k))) (λ bits. P (bits * 2 ^ (16 * k))) = λ bits. w (bits * 2 ^ (16 * k)) in
    colon_whole (colon (λ bits. reads (bits * 2 ^ (16 * k)))) (Colon (λ bits. P (bits * 2 ^ (16 * k))))
    (colon_whole (λ bits. reads (bits * 2 ^ (16 * k))) (λ bits. P (bits * 2 ^ (16 * k))) moved)

shortened_sound : (has_tail : Bool) (left right : ℕ) → IsSound (shortened has_tail left right) (Spells (shortened_parts has_tail left right))
unfolding Spells
shortened_sound has_tail left right =
    row_sound left (gap (group_count has_tail - (left + right)) (last has_tail right)) _
    (gap_sound (group_count has_tail - (left + right)) (last has_tail right) (Spells (end_parts has_tail right)) (last_sound has_tail right))

shortened_whole : (has_tail : Bool) (left right : ℕ) → IsWhole (shortened has_tail left right) (Spells (shortened_parts has_tail left right))
unfolding Spells
shortened_whole has_tail left right =
    row_whole left (gap (group_count has_tail - (left + right)) (last has_tail right)) _
    (gap_whole (group_count has_tail - (left + right)) (last has_tail right) (Spells (end_parts has_tail right)) (last_whole has_tail right))

-- ---- all forms

pub below_sound : (k : ℕ) (gives : ℕ → Option ℕ) (n : ℕ) → first_below k gives ≡ Some n → (i : ℕ) × (i < k) × (gives i ≡ Some n)
below_sound zero gives n e = absurd cc
below_sound (suc k) gives n e = go (below_sound k gives n) (either (first_below k gives) (gives k) n e)
  where
    go : (first_below k gives ≡ Some n → (i : ℕ) × (i < k) × (gives i ≡ Some n)) → (first_below k gives ≡ Some n) ⊎ (gives k ≡ Some n) → (i : ℕ) × (i < suc k) × (gives i ≡ Some n)
    go others (inl f) = let w = others f in (w.0, omega (arith, w.1), w.2)
    go others (inr f) = (k, omega arith, f)

below_whole : (k : ℕ) (gives : ℕ → Option ℕ) (i : ℕ) → i < k → IsGiven (gives i) → IsGiven (first_below k gives)
below_whole zero gives i l g = absurd (omega (arith, l))
below_whole (suc k) gives i l g = go (λ m. below_whole k gives i m g) (cases_lt i k)
  where
    go : (i < k → IsGiven (first_below k gives)) → (i < k) ⊎ (k ≤ i) → IsGiven (first_below (suc k) gives)
    go others (inl m) = first (first_below k gives) (gives k) (others m)
    go others (inr m) = let same : i ≡ k = omega (arith, l, m) in second (first_below k gives) (gives k) (subst (λ (j : ℕ). IsGiven (gives j)) same g)

by_sound : (has_tail : Bool) (text : List ℕ) (n : ℕ) → six_by has_tail text ≡ Some n → SpellsAddress6 text n
unfolding SpellsAddress6
by_sound has_tail text n e = go (either (last has_tail (group_count has_tail) 0 text) (first_below (group_count has_tail) (shortened_behind has_tail text)) n e)
  where
    go : (last has_tail (group_count has_tail) 0 text ≡ Some n) ⊎ (first_below (group_count has_tail) (shortened_behind has_tail text) ≡ Some n) → SpellsAddress6 text n
    go (inl f) = (end_parts has_tail (group_count has_tail), (has_tail, inl refl), last_sound has_tail (group_count has_tail) 0 text n f)
    go (inr f) =
        let l = below_sound (group_count has_tail) (shortened_behind has_tail text) n f in
        let r = below_sound (group_count has_tail - l.0) (λ right. shortened has_tail l.0 right 0 text) n l.2 in
        (shortened_parts has_tail l.0 r.0, (has_tail, inr (l.0, r.0, omega (arith, l.1, r.1), refl)), shortened_sound has_tail l.0 r.0 0 text n r.2)

by_whole : (has_tail : Bool) (text : List ℕ) (n : ℕ) (parts : _)
    → (parts ≡ end_parts has_tail (group_count has_tail)) ⊎ ((left : ℕ) × (right : ℕ) × (left + right < group_count has_tail) × (parts ≡ shortened_parts has_tail left right))
    → Spells parts 0 text n → IsGiven (six_by has_tail text)
by_whole has_tail text n parts (inl e) h =
    first (last has_tail (group_count has_tail) 0 text) (first_below (group_count has_tail) (shortened_behind has_tail text))
    (last_whole has_tail (group_count has_tail) 0 text n (subst (λ ps. Spells ps 0 text n) e h))
by_whole has_tail text n parts (inr (left, right, l, e)) h =
    second (last has_tail (group_count has_tail) 0 text) (first_below (group_count has_tail) (shortened_behind has_tail text))
    (below_whole (group_count has_tail) (shortened_behind has_tail text) left (omega (arith, l))
    (below_whole (group_count has_tail - left) (λ right. shortened has_tail left right 0 text) right (omega (arith, l))
    (shortened_whole has_tail left right 0 text n (subst (λ ps. Spells ps 0 text n) e h))))

-- what is read is spelled
pub six_spelled : (text : List ℕ) (n : ℕ) → six_in text ≡ Some n → SpellsAddress6 text n
unfolding six_in
six_spelled text n e = go (either (six_by false text) (six_by true text) n e)
  where
    go : (six_by false text ≡ Some n) ⊎ (six_by true text ≡ Some n) → SpellsAddress6 text n
    go (inl f) = by_sound false text n f
    go (inr f) = by_sound true text n f

-- and what is spelled is read
pub six_given : (text : List ℕ) (n : ℕ) → SpellsAddress6 text n → IsGiven (six_in text)
unfolding six_in SpellsAddress6
six_given text n (parts, (false, f), s) = first (six_by false text) (six_by true text) (by_whole false text n parts f s)
six_given text n (parts, (true, f), s) = second (six_by false text) (six_by true text) (by_whole true text n parts f s)

pub six_read : (text : List ℕ) (n : ℕ) → SpellsAddress6 text n → ((m : ℕ) → SpellsAddress6 text m → m ≡ n) → Some n ≡ six_in text
six_read text n h only = let g = six_given text n h in ap Some (sym (only g.0 (six_spelled text g.0 g.1))) ∙ sym g.1

none_by : (text : List ℕ) (o : Option ℕ) → six_in text ≡ o → (IsAddress6Text text → ⊥) → None ≡ o
none_by text None is none = refl
none_by text (Some n) is none = absurd (none (n, six_spelled text n is))

pub no_six : (text : List ℕ) → (IsAddress6Text text → ⊥) → None ≡ six_in text
no_six text none = none_by text (six_in text) refl none
