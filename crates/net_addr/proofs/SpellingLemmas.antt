-- Reading by parts: what one more byte does to what may still come.
use Rattle.std.proofs.Common.{◌≡◌, ℕ, zero, suc, ◌+◌, ◌*◌, ◌/◌, ◌%◌, ◌^◌, ◌<◌, ◌≤◌, Bool, true, false, ◌&&◌, List, [], ◌∷◌, ◌++◌, length, take, get_or, Option, Some, None, refl, sym, subst, ap, ◌∙◌, arith, append_assoc, length-append}
use Rattle.std.proofs.Math.Nat.{mul-le-mul_left, mul-le-mul_right}
use Rattle.std.proofs.lemmas.Bool.Decides.{nat_tests, Decides-ltb}
use Rattle.std.proofs.lemmas.Nat.{pow_pos}
use Rattle.std.specs.Char.{digit_value}
use Rattle.std.specs.Fmt.{decimal}
use Rattle.std.specs.Str.Parse.{AllDigits, digits_value}
use Rattle.std.proofs.lemmas.Fmt.{decimal_is_IsNumeral, decimal_digit, decimal_step, decimal_injective, decimal_nonempty, first_decimal}
use Rattle.std.proofs.lemmas.Str.{digit_value_digit}
use Rattle.std.proofs.lemmas.Str.Parse.{digit_from_value, digits_value-take-le}
use Rattle.net_addr.specs.Spelling.{Spells}
use Rattle.net_addr.specs.Reading.{Agree, Ends, IsReading, NumberGoesOn, Takes, no_digit_next, is_clear, value_count}
use Rattle.net_addr.specs.declared.spelling.Part.{Part}
use Rattle.net_addr.specs.declared.spelling.Part.TheVariants.{Number, Digit, Mark, Group, Gap}
use Rattle.net_addr.specs.declared.spelling.Reading.{Reading}
use Rattle.net_addr.specs.declared.spelling.State.TheVariants.{Between, InNumber}

-- decimal numbers

pub small : (n : ℕ) → n < 256 → n < 2 ^ 64
small n h = omega arith

pub digit_byte : (c : ℕ) → digit_value c < 10 → 48 + digit_value c ≡ c
digit_byte c h = omega (arith, digit_value_digit c (digit_from_value c h))

pub one_digit : (c : ℕ) → digit_value c < 10 → decimal (digit_value c) ≡ c ∷ []
one_digit c h = decimal_digit (digit_value c) h ∙ ap (λ (x : ℕ). x ∷ []) (digit_byte c h)

take_front : (xs ys : List ℕ) → take (length xs) (xs ++ ys) ≡ xs
take_front [] ys = refl
take_front (x ∷ xs) ys = ap (λ (zs : List ℕ). x ∷ zs) (take_front xs ys)

-- a number whose text begins with another's isn't below it
pub front_le : (whole m : ℕ) (more : List ℕ) → whole < 256 → m < 2 ^ 64 → decimal whole ≡ decimal m ++ more → m ≤ whole
front_le whole m more hw hm e =
    let front : take (length (decimal m)) (decimal whole) ≡ decimal m = ap (λ (ds : List ℕ). take (length (decimal m)) ds) e ∙ take_front (decimal m) more in
    let less = digits_value-take-le 10 (decimal whole) (length (decimal m)) (omega arith) in
    let vm : digits_value 10 (decimal m) ≡ m = (decimal_is_IsNumeral m hm).1 in
    let vw : digits_value 10 (decimal whole) ≡ whole = (decimal_is_IsNumeral whole (small whole hw)).1 in
    let vf : digits_value 10 (take (length (decimal m)) (decimal whole)) ≡ m = ap (λ (ds : List ℕ). digits_value 10 ds) front ∙ vm in
    omega (arith, less)

-- one more digit behind a number that isn't zero
pub decimal_push : (m c : ℕ) → 0 < m → digit_value c < 10 → m < 256 → decimal (m * 10 + digit_value c) ≡ decimal m ++ c ∷ []
decimal_push m c pos h hm =
    let n = m * 10 + digit_value c in
    let q : n / 10 ≡ m = omega arith in
    let r : n % 10 ≡ digit_value c = omega arith in
    decimal_step n (omega arith) (omega arith) ∙ ap (λ (k : ℕ). decimal k ++ ((48 + n % 10) ∷ [])) q
    ∙ ap (λ (k : ℕ). decimal m ++ (k ∷ [])) (ap (λ (k : ℕ). 48 + k) r ∙ digit_byte c h)

-- no number has a digit behind a leading zero
pub no_leading_zero : (whole c : ℕ) (more : List ℕ) → whole < 256 → decimal whole ≡ 48 ∷ c ∷ more → ⊥
no_leading_zero zero c more hw e =
    let z : decimal zero ≡ 48 ∷ [] = decimal_digit zero (omega arith) in
    let both : 48 ∷ [] ≡ 48 ∷ c ∷ more = sym z ∙ e in
    cc
no_leading_zero (suc k) c more hw e =
    let f = first_decimal (suc k) (omega arith) (small (suc k) hw) in
    let at : get_or (decimal (suc k)) 0 0 ≡ 48 = ap (λ (ds : List ℕ). get_or ds 0 0) e in
    omega (arith, f)

pub all_digits : (n : ℕ) → n < 256 → AllDigits 10 (decimal n)
all_digits n h = (decimal_is_IsNumeral n (small n h)).0.1

in_digits : (xs : List ℕ) (c : ℕ) (ys : List ℕ) → AllDigits 10 (xs ++ c ∷ ys) → digit_value c < 10
in_digits [] c ys h = h.0
in_digits (x ∷ xs) c ys h = in_digits xs c ys h.1

digit_behind : (whole m c : ℕ) (more : List ℕ) → whole < 256 → decimal whole ≡ decimal m ++ c ∷ more → digit_value c < 10
digit_behind whole m c more h e = in_digits (decimal m) c more (subst (λ (ds : List ℕ). AllDigits 10 ds) e (all_digits whole h))

pub append_none : (xs : List ℕ) → xs ++ [] ≡ xs
append_none [] = refl
append_none (x ∷ xs) = ap (λ (zs : List ℕ). x ∷ zs) (append_none xs)

-- the first byte of a part

number_front : (top v c : ℕ) (parts : List Part) (text : List ℕ) (n : ℕ) (m : ℕ) (ds rest : List ℕ)
    → top < 256 → m ≤ top → decimal m ≡ ds → c ∷ text ≡ ds ++ rest → Spells parts (v * 256 + m) rest n
    → (digit_value c < 10) × (digit_value c ≤ top) × NumberGoesOn parts v top (digit_value c) text n
unfolding Spells
number_front top v c parts text n m [] rest ht hm e et s =
    let long = decimal_nonempty m (small m (omega arith)) in
    let none : length (decimal m) ≡ 0 = ap (λ (ds : List ℕ). length ds) e in
    absurd (omega (arith, long))
number_front top v c parts text n m (x ∷ xs) rest ht hm e et s =
    let same : c ≡ x = cc in
    let back : text ≡ xs ++ rest = cc in
    let d : digit_value c < 10 = subst (λ (y : ℕ). digit_value y < 10) (sym same) (in_digits [] x xs (subst (λ (ds : List ℕ). AllDigits 10 ds) e (all_digits m (omega arith)))) in
    let front : decimal m ≡ decimal (digit_value c) ++ xs = e ∙ ap (λ (y : ℕ). y ∷ xs) (sym same) ∙ ap (λ (ds : List ℕ). ds ++ xs) (sym (one_digit c d)) in
    let le = front_le m (digit_value c) xs (omega arith) (omega arith) front in
    (d, omega (arith, le), (m, xs, rest, hm, front, back, s))

pub begins_number : (top v c : ℕ) (parts : List Part) (text : List ℕ) (n : ℕ) → top < 256 → Spells (Number top ∷ parts) v (c ∷ text) n
    → (digit_value c < 10) × (digit_value c ≤ top) × NumberGoesOn parts v top (digit_value c) text n
unfolding Spells
begins_number top v c parts text n ht (m, rest, hm, e, s) = number_front top v c parts text n m (decimal m) rest ht hm refl e s

pub number_agrees : (top v c : ℕ) (parts : List Part) → top < 256 → digit_value c < 10 → Agree (λ text n. Spells (Number top ∷ parts) v (c ∷ text) n) (NumberGoesOn parts v top (digit_value c))
unfolding Spells
number_agrees top v c parts ht d text n = (
  λ s. (begins_number top v c parts text n ht s).2,
  λ (whole, more, rest, hw, e, et, s).
      let front : c ∷ text ≡ decimal whole ++ rest = ap (λ (ts : List ℕ). c ∷ ts) et ∙ ap (λ (ds : List ℕ). (ds ++ more) ++ rest) (sym (one_digit c d)) ∙ ap (λ (ds : List ℕ). ds ++ rest) (sym e) in
      (whole, rest, hw, front, s),
)

pub digit_agrees : (v c : ℕ) (parts : List Part) → digit_value c < 16 → Agree (λ text n. Spells (Digit ∷ parts) v (c ∷ text) n) (Spells parts (v * 16 + digit_value c))
unfolding Spells
digit_agrees v c parts h text n = (
  λ (b, rest, hb, e, s).
      let same : b ≡ c = cc in
      let back : rest ≡ text = cc in
      subst (λ (ts : List ℕ). Spells parts (v * 16 + digit_value c) ts n) back (subst (λ (x : ℕ). Spells parts (v * 16 + digit_value x) rest n) same s),
  λ s. (c, text, h, refl, s),
)

pub begins_digit : (v c : ℕ) (parts : List Part) (text : List ℕ) (n : ℕ) → Spells (Digit ∷ parts) v (c ∷ text) n → digit_value c < 16
unfolding Spells
begins_digit v c parts text n (b, rest, hb, e, s) = let same : b ≡ c = cc in subst (λ (x : ℕ). digit_value x < 16) same hb

pub mark_agrees : (v c : ℕ) (parts : List Part) → Agree (λ text n. Spells (Mark c ∷ parts) v (c ∷ text) n) (Spells parts v)
unfolding Spells
mark_agrees v c parts text n = (
  λ (rest, e, s). let back : rest ≡ text = cc in subst (λ (ts : List ℕ). Spells parts v ts n) back s,
  λ s. (text, refl, s),
)

pub begins_mark : (v c b : ℕ) (parts : List Part) (text : List ℕ) (n : ℕ) → Spells (Mark b ∷ parts) v (c ∷ text) n → c ≡ b
unfolding Spells
begins_mark v c b parts text n (rest, e, s) = cc

pub gap_agrees : (v k : ℕ) (parts : List Part) → Agree (λ text n. Spells (Gap k ∷ parts) v (58 ∷ text) n) (Spells parts (v * 2 ^ (16 * k)))
unfolding Spells
gap_agrees v k parts text n = (
  λ (rest, e, s). let back : rest ≡ text = cc in subst (λ (ts : List ℕ). Spells parts (v * 2 ^ (16 * k)) ts n) back s,
  λ s. (text, refl, s),
)

pub begins_gap : (v c k : ℕ) (parts : List Part) (text : List ℕ) (n : ℕ) → Spells (Gap k ∷ parts) v (c ∷ text) n → c ≡ 58
unfolding Spells
begins_gap v c k parts text n (rest, e, s) = cc

-- a byte behind a number that is under way

pub not_a_digit : (radix : ℕ) (parts : List Part) (v c : ℕ) (text : List ℕ) (n : ℕ) → no_digit_next radix parts ≡ true → digit_value c < radix → Spells parts v (c ∷ text) n → ⊥
unfolding Spells
not_a_digit radix [] v c text n clear d s = let e = s.0 in cc
not_a_digit radix (Number top ∷ parts) v c text n clear d s = cc
not_a_digit radix (Digit ∷ parts) v c text n clear d s = cc
not_a_digit radix (Mark b ∷ parts) v c text n clear d s =
    let same : c ≡ b = begins_mark v c b parts text n s in
    let big : digit_value b < radix = subst (λ (x : ℕ). digit_value x < radix) same d in
    grind (arith, nat_tests)
not_a_digit radix (Group ∷ parts) v c text n clear d s = cc
not_a_digit radix (Gap k ∷ parts) v c text n clear d s =
    let same : c ≡ 58 = begins_gap v c k parts text n s in
    let big : digit_value 58 < radix = subst (λ (x : ℕ). digit_value x < radix) same d in
    grind (arith, nat_tests)

goes_on_digit : (parts : List Part) (v top m c : ℕ) (text : List ℕ) (n : ℕ) (whole : ℕ) (more rest : List ℕ)
    → no_digit_next 10 parts ≡ true → m ≤ top → top < 256 → digit_value c < 10
    → whole ≤ top → decimal whole ≡ decimal m ++ more → c ∷ text ≡ more ++ rest → Spells parts (v * 256 + whole) rest n
    → (0 < m) × (m * 10 + digit_value c ≤ top) × NumberGoesOn parts v top (m * 10 + digit_value c) text n
goes_on_digit parts v top m c text n whole [] rest clear hm ht d hw e et s =
    absurd (not_a_digit 10 parts (v * 256 + whole) c text n clear d (subst (λ (ts : List ℕ). Spells parts (v * 256 + whole) ts n) (sym et) s))
goes_on_digit parts v top zero c text n whole (x ∷ xs) rest clear hm ht d hw e et s =
    absurd (no_leading_zero whole x xs (omega arith) (e ∙ ap (λ (ds : List ℕ). ds ++ x ∷ xs) (decimal_digit zero (omega arith))))
goes_on_digit parts v top (suc k) c text n whole (x ∷ xs) rest clear hm ht d hw e et s =
    let same : x ≡ c = cc in
    let back : text ≡ xs ++ rest = cc in
    let push = decimal_push (suc k) c (omega arith) d (omega arith) in
    let front : decimal whole ≡ decimal (suc k * 10 + digit_value c) ++ xs =
    e ∙ ap (λ (y : ℕ). decimal (suc k) ++ y ∷ xs) same ∙ sym (append_assoc (decimal (suc k)) (c ∷ []) xs) ∙ ap (λ (ds : List ℕ). ds ++ xs) (sym push) in
    let le = front_le whole (suc k * 10 + digit_value c) xs (omega arith) (omega arith) front in
    (omega arith, omega (arith, le), (whole, xs, rest, hw, front, back, s))

pub digit_goes_on : (parts : List Part) (v top m c : ℕ) (text : List ℕ) (n : ℕ) → no_digit_next 10 parts ≡ true → m ≤ top → top < 256 → digit_value c < 10
    → NumberGoesOn parts v top m (c ∷ text) n → (0 < m) × (m * 10 + digit_value c ≤ top) × NumberGoesOn parts v top (m * 10 + digit_value c) text n
digit_goes_on parts v top m c text n clear hm ht d (whole, more, rest, hw, e, et, s) =
    goes_on_digit parts v top m c text n whole more rest clear hm ht d hw e et s

pub grown_agrees : (parts : List Part) (v top m c : ℕ) → no_digit_next 10 parts ≡ true → m ≤ top → top < 256 → digit_value c < 10 → 0 < m
    → Agree (λ text n. NumberGoesOn parts v top m (c ∷ text) n) (NumberGoesOn parts v top (m * 10 + digit_value c))
grown_agrees parts v top m c clear hm ht d pos text n = (
  λ g. (digit_goes_on parts v top m c text n clear hm ht d g).2,
  λ (whole, more, rest, hw, e, et, s).
      let front : decimal whole ≡ decimal m ++ (c ∷ more) = e ∙ ap (λ (ds : List ℕ). ds ++ more) (decimal_push m c pos d (omega arith)) ∙ append_assoc (decimal m) (c ∷ []) more in
      (whole, c ∷ more, rest, hw, front, ap (λ (ts : List ℕ). c ∷ ts) et, s),
)

-- the number is whole where no digit follows
goes_on_whole : (parts : List Part) (v top m : ℕ) (text : List ℕ) (n : ℕ) (whole : ℕ) (more rest : List ℕ)
    → ((c : ℕ) (ts : List ℕ) → text ≡ c ∷ ts → digit_value c < 10 → ⊥) → m ≤ top → top < 256
    → whole ≤ top → decimal whole ≡ decimal m ++ more → text ≡ more ++ rest → Spells parts (v * 256 + whole) rest n
    → Spells parts (v * 256 + m) text n
goes_on_whole parts v top m text n whole [] rest none hm ht hw e et s =
    let same : whole ≡ m = decimal_injective whole m (omega arith) (omega arith) (e ∙ append_none (decimal m)) in
    subst (λ (ts : List ℕ). Spells parts (v * 256 + m) ts n) (sym et) (subst (λ (k : ℕ). Spells parts (v * 256 + k) rest n) same s)
goes_on_whole parts v top m text n whole (x ∷ xs) rest none hm ht hw e et s =
    absurd (none x (xs ++ rest) et (digit_behind whole m x xs (omega arith) e))

pub whole_agrees : (parts : List Part) (v top m : ℕ) (text : List ℕ) (n : ℕ)
    → ((c : ℕ) (ts : List ℕ) → text ≡ c ∷ ts → digit_value c < 10 → ⊥) → m ≤ top → top < 256
    → (NumberGoesOn parts v top m text n → Spells parts (v * 256 + m) text n) × (Spells parts (v * 256 + m) text n → NumberGoesOn parts v top m text n)
whole_agrees parts v top m text n none hm ht = (
  λ (whole, more, rest, hw, e, et, s). goes_on_whole parts v top m text n whole more rest none hm ht hw e et s,
  λ s. (m, [], text, hm, sym (append_none (decimal m)), refl, s),
)

pub ended_agrees : (parts : List Part) (v top m c : ℕ) → m ≤ top → top < 256 → (digit_value c < 10 → ⊥)
    → Agree (λ text n. NumberGoesOn parts v top m (c ∷ text) n) (λ text n. Spells parts (v * 256 + m) (c ∷ text) n)
ended_agrees parts v top m c hm ht none text n =
    whole_agrees parts v top m (c ∷ text) n (λ x ts e d. let same : x ≡ c = cc in none (subst (λ (y : ℕ). digit_value y < 10) same d)) hm ht

-- the end of the text

pub and_left : (a b : Bool) → (a && b) ≡ true → a ≡ true
and_left true b h = refl
and_left false b h = cc

pub top_small : (top : ℕ) (parts : List Part) → is_clear (Number top ∷ parts) ≡ true → top < 256
top_small top parts h = (Decides-ltb top 256).0 (and_left _ _ (and_left _ _ h))

pub no_end : (parts : List Part) (v n : ℕ) → 0 < length parts → is_clear parts ≡ true → Spells parts v [] n → ⊥
unfolding Spells
no_end [] v n long clear s = omega arith
no_end (Number top ∷ parts) v n long clear (m, rest, hm, e, s) =
    let bound : top < 256 = top_small top parts clear in
    let some = decimal_nonempty m (small m (omega arith)) in
    let none : length (decimal m ++ rest) ≡ 0 = ap (λ (ds : List ℕ). length ds) (sym e) in
    omega (arith, some, length-append (decimal m) rest)
no_end (Digit ∷ parts) v n long clear (c, rest, h, e, s) = cc
no_end (Mark c ∷ parts) v n long clear (rest, e, s) = cc
no_end (Group ∷ parts) v n long clear (ds, rest, some, few, h, e, s) =
    let none : length (ds ++ rest) ≡ 0 = ap (λ (ts : List ℕ). length ts) (sym e) in
    omega (arith, some, length-append ds rest)
no_end (Gap k ∷ parts) v n long clear (rest, e, s) = cc

-- room

pub power_pos : (k : ℕ) → 1 ≤ 2 ^ k
power_pos k = omega (arith, pow_pos k)

pub count_pos : (parts : List Part) → 1 ≤ value_count parts
count_pos [] = omega arith
count_pos (Number top ∷ parts) = omega (arith, count_pos parts)
count_pos (Digit ∷ parts) = omega (arith, count_pos parts)
count_pos (Mark c ∷ parts) = count_pos parts
count_pos (Group ∷ parts) = omega (arith, count_pos parts)
count_pos (Gap k ∷ parts) = omega (arith, mul-le-mul_right (value_count parts) (power_pos (16 * k)), count_pos parts)

-- a number below b behind the value takes one factor b of the room
pub room_behind : (v b d k : ℕ) → d < b → (v + 1) * (b * k) ≤ 2 ^ 128 → (v * b + d + 1) * k ≤ 2 ^ 128
room_behind v b d k h room =
    let less : v * b + d + 1 ≤ (v + 1) * b = omega arith in
    omega (arith, room, mul-le-mul_right k less)

pub room_fits : (v k : ℕ) → 1 ≤ k → (v + 1) * k ≤ 2 ^ 128 → v < 2 ^ 128
room_fits v k h room = omega (arith, room, mul-le-mul_left (v + 1) h)

-- what a byte leads to, with other words for what may come
pub takes_along : (P Q : List ℕ → ℕ → Type 0) (c : ℕ) (r : Option Reading) → Agree (λ text n. P (c ∷ text) n) (λ text n. Q (c ∷ text) n) → Takes Q c r → Takes P c r
takes_along P Q c None same t = λ text n p. t text n ((same text n).0 p)
takes_along P Q c (Some r) same t = (t.0, λ text n. (λ p. (t.1 text n).0 ((same text n).0 p), λ q. (same text n).1 ((t.1 text n).1 q)))

pub grown_to : (parts : List Part) (v top m c top' m' : ℕ) → no_digit_next 10 parts ≡ true → m ≤ top → top < 256 → digit_value c < 10 → 0 < m → top' ≡ top → m' ≡ m * 10 + digit_value c
    → Agree (λ text n. NumberGoesOn parts v top m (c ∷ text) n) (NumberGoesOn parts v top' m')
grown_to parts v top m c top' m' clear hm ht d pos et em =
    subst (λ (t : ℕ). Agree (λ text n. NumberGoesOn parts v top m (c ∷ text) n) (NumberGoesOn parts v t m')) (sym et)
    (subst (λ (k : ℕ). Agree (λ text n. NumberGoesOn parts v top m (c ∷ text) n) (NumberGoesOn parts v top k)) (sym em) (grown_agrees parts v top m c clear hm ht d pos))

-- some text completes each reading
pub completes : (parts : List Part) (v : ℕ) → (text : List ℕ) × ((n : ℕ) × Spells parts v text n)
unfolding Spells
completes [] v = ([], (v, (refl, refl)))
completes (Number top ∷ parts) v = let (t, w) = completes parts (v * 256 + 0) in (decimal 0 ++ t, (w.0, (0, t, omega arith, refl, w.1)))
completes (Digit ∷ parts) v = let (t, w) = completes parts (v * 16 + 0) in (48 ∷ t, (w.0, (48, t, omega arith, refl, w.1)))
completes (Mark c ∷ parts) v = let (t, w) = completes parts v in (c ∷ t, (w.0, (t, refl, w.1)))
completes (Group ∷ parts) v =
    let (t, w) = completes parts (v * 2 ^ 16 + 0) in (48 ∷ t, (w.0, (48 ∷ [], t, omega arith, omega arith, (omega arith, tt), refl, w.1)))
completes (Gap k ∷ parts) v = let (t, w) = completes parts (v * 2 ^ (16 * k)) in (58 ∷ t, (w.0, (t, refl, w.1)))

pub and_right : (a b : Bool) → (a && b) ≡ true → b ≡ true
and_right true b h = h
and_right false b h = cc

pub readied_number : (top v m : ℕ) (parts : List Part) → IsReading (Number top ∷ parts) v Between → m ≤ top → IsReading parts v (InNumber (record { top = top; number = m }))
readied_number top v m parts h hm = (and_right _ _ h.0, and_right _ _ (and_left _ _ h.0), hm, top_small top parts h.0, h.1)

-- a number that is under way, taken as whole
pub whole_fits : (parts : List Part) (v top m : ℕ) → IsReading parts v (InNumber (record { top = top; number = m })) → v * 256 + m < 2 ^ 128
whole_fits parts v top m h = room_fits _ _ (count_pos parts) (room_behind v 256 m (value_count parts) (omega (arith, h)) h.4)

pub whole_reading : (parts : List Part) (v top m : ℕ) → IsReading parts v (InNumber (record { top = top; number = m })) → IsReading parts (v * 256 + m) Between
whole_reading parts v top m h = (h.0, room_behind v 256 m (value_count parts) (omega (arith, h)) h.4)

pub ends_along : (P Q : List ℕ → ℕ → Type 0) (r : Option ℕ) → ((n : ℕ) → (P [] n → Q [] n) × (Q [] n → P [] n)) → Ends Q r → Ends P r
ends_along P Q None same e = λ n p. e n ((same n).0 p)
ends_along P Q (Some v) same e = λ n. (λ p. (e n).0 ((same n).0 p), λ q. (same n).1 ((e n).1 q))

pub ends_number : (parts : List Part) (v top m : ℕ) (r : Option ℕ) → m ≤ top → top < 256 → Ends (Spells parts (v * 256 + m)) r → Ends (NumberGoesOn parts v top m) r
ends_number parts v top m r hm ht e = ends_along (NumberGoesOn parts v top m) (Spells parts (v * 256 + m)) r (λ n. whole_agrees parts v top m [] n (λ c ts e d. cc) hm ht) e

pub no_parts : (parts : List Part) (v c : ℕ) (text : List ℕ) (n : ℕ) → length parts ≡ 0 → Spells parts v (c ∷ text) n → ⊥
unfolding Spells
no_parts [] v c text n e s = let none = s.0 in cc
no_parts (p ∷ parts) v c text n e s = omega arith

pub ended : (parts : List Part) (v n : ℕ) → length parts ≤ 0 → (Spells parts v [] n → n ≡ v) × (n ≡ v → Spells parts v [] n)
unfolding Spells
ended [] v n e = (λ s. s.1, λ same. (refl, same))
ended (p ∷ parts) v n e = absurd (omega arith)

-- a text of some parts, and behind it a text of others
pub join_parts : (front back : List Part) (v : ℕ) (a b : List ℕ) (m n : ℕ) → Spells front v a m → Spells back m b n → Spells (front ++ back) v (a ++ b) n
unfolding Spells
join_parts [] back v a b m n sa sb =
    let none : a ≡ [] = sa.0 in
    let same : m ≡ v = sa.1 in
    subst (λ (ts : List ℕ). Spells back v (ts ++ b) n) (sym none) (subst (λ (k : ℕ). Spells back k b n) same sb)
join_parts (Number top ∷ front) back v a b m n (k, rest, hk, e, sa) sb =
    (k, rest ++ b, hk, ap (λ (ts : List ℕ). ts ++ b) e ∙ append_assoc (decimal k) rest b, join_parts front back (v * 256 + k) rest b m n sa sb)
join_parts (Digit ∷ front) back v a b m n (c, rest, h, e, sa) sb =
    (c, rest ++ b, h, ap (λ (ts : List ℕ). ts ++ b) e, join_parts front back (v * 16 + digit_value c) rest b m n sa sb)
join_parts (Mark c ∷ front) back v a b m n (rest, e, sa) sb = (rest ++ b, ap (λ (ts : List ℕ). ts ++ b) e, join_parts front back v rest b m n sa sb)
join_parts (Group ∷ front) back v a b m n (ds, rest, some, few, h, e, sa) sb =
    (ds, rest ++ b, some, few, h, ap (λ (ts : List ℕ). ts ++ b) e ∙ append_assoc ds rest b, join_parts front back (v * 2 ^ 16 + digits_value 16 ds) rest b m n sa sb)
join_parts (Gap k ∷ front) back v a b m n (rest, e, sa) sb = (rest ++ b, ap (λ (ts : List ℕ). ts ++ b) e, join_parts front back (v * 2 ^ (16 * k)) rest b m n sa sb)
