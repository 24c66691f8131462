-- The forms of texts of version 6: each can be read, and the text of one shows which it is.
use Rattle.std.proofs.Common.{◌≡◌, ℕ, zero, suc, ◌+◌, ◌-◌, ◌*◌, ◌^◌, ◌<◌, ◌≤◌, inl, inr, List, [], ◌∷◌, ◌++◌, length, take, get_or, Bool, true, false, ◌&&◌, ◌||◌, not, ◌==◌, nat_lt, nat_le, if◌then◌else◌, refl, sym, subst, ap, ◌∙◌, arith, length-append}
use Rattle.std.proofs.lemmas.Bool.{cases_lt, eqb-true}
use Rattle.std.proofs.lemmas.Bool.Decides.{nat_tests}
use Rattle.std.specs.Char.{digit_value}
use Rattle.std.specs.Fmt.{decimal}
use Rattle.std.specs.Str.Parse.{AllDigits, digits_value}
use Rattle.std.proofs.lemmas.Fmt.{decimal_injective, decimal_nonempty}
use Rattle.net_addr.specs.Reading.{is_readable, no_digit_next}
use Rattle.net_addr.specs.Spelling.{IsForm, Spells, SpellsAddr, SpellsAddress, SpellsAddress6, address_parts, end_parts, group_count, groups_before, row_parts, shortened_parts}
use Rattle.net_addr.specs.declared.address.Addr.{Addr}
use Rattle.net_addr.specs.declared.address.Addr.TheVariants.{V4, V6}
use Rattle.net_addr.specs.declared.spelling.Part.{Part}
use Rattle.net_addr.specs.declared.spelling.Part.TheVariants.{Number, Digit, Mark, Group, Gap}
use Rattle.net_addr.proofs.SpellingLemmas.{all_digits, and_left, and_right, not_a_digit, small}

-- a test of each number below a bound, and of each form
abbrev all_under : ℕ → (ℕ → Bool) → Bool
all_under zero test = true
all_under (suc k) test = test k && all_under k test

under : (k : ℕ) (test : ℕ → Bool) → all_under k test ≡ true → (i : ℕ) → i < k → test i ≡ true
under zero test h i l = absurd (omega (arith, l))
under (suc k) test h i l = elim (cases_lt i k) [
  | inl less ↦ under k test (and_right _ _ h) i less
  | inr more ↦ let e : k ≡ i = omega (arith, l, more) in subst (λ (j : ℕ). test j ≡ true) e (and_left _ _ h)
]

or_false : (a b : Bool) → (a || b) ≡ true → a ≡ false → b ≡ true
or_false true b h e = cc
or_false false b h e = h

pub or_none : (a b : Bool) → (a || b) ≡ false → a ≡ false
or_none false b h = refl
or_none true b h = cc

pub or_neither : (a b : Bool) → (a || b) ≡ false → b ≡ false
or_neither false b h = h
or_neither true b h = cc

abbrev all_shortened : Bool → (ℕ → ℕ → Bool) → Bool
all_shortened has_tail test = all_under 8 (λ left. all_under 8 (λ right. nat_le (group_count has_tail) (left + right) || test left right))

count_small : (has_tail : Bool) → group_count has_tail ≤ 8
count_small false = omega arith
count_small true = omega arith

each_shortened : (has_tail : Bool) (test : ℕ → ℕ → Bool) → all_shortened has_tail test ≡ true → (left right : ℕ)
    → left + right < group_count has_tail → test left right ≡ true
each_shortened has_tail test h left right l =
    let few = count_small has_tail in
    let row = under 8 (λ i. all_under 8 (λ j. nat_le (group_count has_tail) (i + j) || test i j)) h left (omega (arith, few, l)) in
    let one = under 8 (λ j. nat_le (group_count has_tail) (left + j) || test left j) row right (omega (arith, few, l)) in
    let no : nat_le (group_count has_tail) (left + right) ≡ false = grind (arith, nat_tests) in
    or_false _ _ one no

abbrev passes : Bool → (List Part → Bool) → Bool
passes has_tail test = test (end_parts has_tail (group_count has_tail)) && all_shortened has_tail (λ left right. test (shortened_parts has_tail left right))

pub each_form : (test : List Part → Bool) → passes false test ≡ true → passes true test ≡ true → (parts : List Part)
    → IsForm parts → test parts ≡ true
each_form test f t parts (false, inl e) = subst (λ (p : List Part). test p ≡ true) (sym e) (and_left _ _ f)
each_form test f t parts (true, inl e) = subst (λ (p : List Part). test p ≡ true) (sym e) (and_left _ _ t)
each_form test f t parts (false, inr (left, right, l, e)) =
    subst (λ (p : List Part). test p ≡ true) (sym e) (each_shortened false (λ i j. test (shortened_parts false i j)) (and_right _ _ f) left right l)
each_form test f t parts (true, inr (left, right, l, e)) =
    subst (λ (p : List Part). test p ≡ true) (sym e) (each_shortened true (λ i j. test (shortened_parts true i j)) (and_right _ _ t) left right l)

pub form_readable : (parts : List Part) → IsForm parts → is_readable parts ≡ true
form_readable = each_form is_readable refl refl

-- whether each number and each group ends where the next part begins, and no mark is a digit
abbrev pub is_apart : List Part → Bool
is_apart [] = true
is_apart (Number top ∷ parts) = nat_lt top 256 && no_digit_next 16 parts && is_apart parts
is_apart (Digit ∷ parts) = false
is_apart (Mark c ∷ parts) = nat_le 16 (digit_value c) && is_apart parts
is_apart (Group ∷ parts) = no_digit_next 16 parts && is_apart parts
is_apart (Gap k ∷ parts) = is_apart parts

form_apart : (parts : List Part) → IsForm parts → is_apart parts ≡ true
form_apart = each_form is_apart refl refl

-- no digit comes first
abbrev NoDigitFirst : List ℕ → Type 0
NoDigitFirst text = (c : ℕ) (rest : List ℕ) → text ≡ c ∷ rest → digit_value c < 16 → ⊥

none_first : (parts : List Part) (v : ℕ) (text : List ℕ) (n : ℕ) → no_digit_next 16 parts ≡ true
    → Spells parts v text n → NoDigitFirst text
none_first parts v text n h s c rest e d = not_a_digit 16 parts v c rest n h d (subst (λ (ts : List ℕ). Spells parts v ts n) e s)

more_digits : (ds : List ℕ) → AllDigits 10 ds → AllDigits 16 ds
more_digits [] h = tt
more_digits (d ∷ ds) h = (omega (arith, h.0), more_digits ds h.1)

decimal_digits : (m top : ℕ) → m ≤ top → top < 256 → AllDigits 16 (decimal m)
decimal_digits m top l t = more_digits (decimal m) (all_digits m (omega (arith, l, t)))

top_is_small : (top : ℕ) (parts : List Part) → is_apart (Number top ∷ parts) ≡ true → top < 256
top_is_small top parts h = let t : nat_lt top 256 ≡ true = and_left _ _ (and_left _ _ h) in grind (arith, nat_tests)

-- digits in front of texts that begin with none
cut_digits : (ds es a b : List ℕ) → AllDigits 16 ds → AllDigits 16 es → NoDigitFirst a → NoDigitFirst b
    → ds ++ a ≡ es ++ b → (ds ≡ es) × (a ≡ b)
cut_digits [] [] a b hd he na nb e = (refl, e)
cut_digits [] (y ∷ es) a b hd he na nb e = absurd (na y (es ++ b) e he.0)
cut_digits (x ∷ ds) [] a b hd he na nb e = absurd (nb x (ds ++ a) (sym e) hd.0)
cut_digits (x ∷ ds) (y ∷ es) a b hd he na nb e =
    let same : x ≡ y = cc in
    let back : ds ++ a ≡ es ++ b = cc in
    let w = cut_digits ds es a b hd.1 he.1 na nb back in
    let front : ds ≡ es = w.0 in
    let rest : a ≡ b = w.1 in
    (ap (λ (c : ℕ). c ∷ ds) same ∙ ap (λ (ts : List ℕ). y ∷ ts) front, rest)

-- a text of the parts is one of one number
pub spelled_once : (parts : List Part) (v : ℕ) (text : List ℕ) (m n : ℕ) → is_apart parts ≡ true
    → Spells parts v text m → Spells parts v text n → m ≡ n
unfolding Spells
spelled_once [] v text m n h s t = s.1 ∙ sym (t.1)
spelled_once (Number top ∷ parts) v text m n h (j, a, hj, ea, s) (k, b, hk, eb, t) =
    let bound : top < 256 = top_is_small top parts h in
    let small_j : j < 2 ^ 64 = omega (arith, hj, bound) in
    let small_k : k < 2 ^ 64 = omega (arith, hk, bound) in
    let next : no_digit_next 16 parts ≡ true = and_right _ _ (and_left _ _ h) in
    let both : decimal j ++ a ≡ decimal k ++ b = sym ea ∙ eb in
    let w =
    cut_digits (decimal j) (decimal k) a b (decimal_digits j top hj bound) (decimal_digits k top hk bound) (none_first parts (v * 256 + j) a m next s) (none_first parts (v * 256 + k) b n next t)
    both in
    let same : k ≡ j = decimal_injective k j small_k small_j (sym w.0) in
    let rest : b ≡ a = sym w.1 in
    spelled_once parts (v * 256 + j) a m n (and_right _ _ h) s
    (subst (λ (ts : List ℕ). Spells parts (v * 256 + j) ts n) rest (subst (λ (i : ℕ). Spells parts (v * 256 + i) b n) same t))
spelled_once (Digit ∷ parts) v text m n h s t = cc
spelled_once (Mark c ∷ parts) v text m n h (a, ea, s) (b, eb, t) =
    let both : c ∷ a ≡ c ∷ b = sym ea ∙ eb in
    let rest : b ≡ a = cc in
    spelled_once parts v a m n (and_right _ _ h) s (subst (λ (ts : List ℕ). Spells parts v ts n) rest t)
spelled_once (Group ∷ parts) v text m n h (ds, a, some, few, hd, ea, s) (es, b, some', few', he, eb, t) =
    let next : no_digit_next 16 parts ≡ true = and_left _ _ h in
    let both : ds ++ a ≡ es ++ b = sym ea ∙ eb in
    let w = cut_digits ds es a b hd he (none_first parts _ a m next s) (none_first parts _ b n next t) both in
    let same : es ≡ ds = sym w.0 in
    let rest : b ≡ a = sym w.1 in
    spelled_once parts (v * 2 ^ 16 + digits_value 16 ds) a m n (and_right _ _ h) s
    (subst (λ (ts : List ℕ). Spells parts (v * 2 ^ 16 + digits_value 16 ds) ts n) rest (subst (λ (fs : List ℕ). Spells parts (v * 2 ^ 16 + digits_value 16 fs) b n) same t))
spelled_once (Gap k ∷ parts) v text m n h (a, ea, s) (b, eb, t) =
    let both : 58 ∷ a ≡ 58 ∷ b = sym ea ∙ eb in
    let rest : b ≡ a = cc in
    spelled_once parts (v * 2 ^ (16 * k)) a m n h s (subst (λ (ts : List ℕ). Spells parts (v * 2 ^ (16 * k)) ts n) rest t)

-- a text with each run of digits as one zero digit, where a run may be under way, and the same of parts
abbrev outline_from : Bool → List ℕ → List ℕ
outline_from run [] = []
outline_from run (c ∷ cs) = if nat_lt (digit_value c) 16 then (if run then outline_from true cs else 48 ∷ outline_from true cs) else c ∷ outline_from false cs

abbrev pub outline : List ℕ → List ℕ
outline text = outline_from false text

abbrev pub parts_outline : List Part → List ℕ
parts_outline [] = []
parts_outline (Number top ∷ parts) = 48 ∷ parts_outline parts
parts_outline (Digit ∷ parts) = 48 ∷ parts_outline parts
parts_outline (Mark c ∷ parts) = c ∷ parts_outline parts
parts_outline (Group ∷ parts) = 48 ∷ parts_outline parts
parts_outline (Gap k ∷ parts) = 58 ∷ parts_outline parts

is_digit : (c : ℕ) → digit_value c < 16 → nat_lt (digit_value c) 16 ≡ true
is_digit c h = grind (arith, nat_tests)

no_digit : (c : ℕ) → (digit_value c < 16 → ⊥) → nat_lt (digit_value c) 16 ≡ false
no_digit c h = grind (arith, nat_tests)

run_ends : (run : Bool) (text : List ℕ) → NoDigitFirst text → outline_from run text ≡ outline text
run_ends run [] none = refl
run_ends run (c ∷ cs) none = let e = no_digit c (none c cs refl) in rw e

run_goes : (ds rest : List ℕ) → AllDigits 16 ds → NoDigitFirst rest → outline_from true (ds ++ rest) ≡ outline rest
run_goes [] rest h none = run_ends true rest none
run_goes (d ∷ ds) rest h none = let e = is_digit d h.0 in rw e (run_goes ds rest h.1 none)

run_is : (ds rest : List ℕ) → 0 < length ds → AllDigits 16 ds → NoDigitFirst rest
    → outline (ds ++ rest) ≡ 48 ∷ outline rest
run_is [] rest some h none = absurd (omega (arith, some))
run_is (d ∷ ds) rest some h none = let e = is_digit d h.0 in rw e (ap (λ (ts : List ℕ). 48 ∷ ts) (run_goes ds rest h.1 none))

mark_is : (c : ℕ) (rest : List ℕ) → nat_le 16 (digit_value c) ≡ true → outline (c ∷ rest) ≡ c ∷ outline rest
mark_is c rest h = let e : nat_lt (digit_value c) 16 ≡ false = grind (arith, nat_tests) in rw e

-- a text of the parts has their outline
pub outline_is : (parts : List Part) (v : ℕ) (text : List ℕ) (n : ℕ) → is_apart parts ≡ true → Spells parts v text n
    → outline text ≡ parts_outline parts
unfolding Spells
outline_is [] v text n h s = ap outline s.0
outline_is (Number top ∷ parts) v text n h (m, rest, hm, e, s) =
    let bound : top < 256 = top_is_small top parts h in
    let less : m < 256 = omega (arith, hm, bound) in
    let next : no_digit_next 16 parts ≡ true = and_right _ _ (and_left _ _ h) in
    ap outline e
    ∙ run_is (decimal m) rest (decimal_nonempty m (small m less)) (decimal_digits m top hm bound) (none_first parts (v * 256 + m) rest n next s)
    ∙ ap (λ (ts : List ℕ). 48 ∷ ts) (outline_is parts (v * 256 + m) rest n (and_right _ _ h) s)
outline_is (Digit ∷ parts) v text n h s = cc
outline_is (Mark c ∷ parts) v text n h (rest, e, s) =
    ap outline e ∙ mark_is c rest (and_left _ _ h)
    ∙ ap (λ (ts : List ℕ). c ∷ ts) (outline_is parts v rest n (and_right _ _ h) s)
outline_is (Group ∷ parts) v text n h (ds, rest, some, few, hd, e, s) =
    ap outline e ∙ run_is ds rest some hd (none_first parts _ rest n (and_left _ _ h) s)
    ∙ ap (λ (ts : List ℕ). 48 ∷ ts) (outline_is parts (v * 2 ^ 16 + digits_value 16 ds) rest n (and_right _ _ h) s)
outline_is (Gap k ∷ parts) v text n h (rest, e, s) =
    ap outline e ∙ mark_is 58 rest refl
    ∙ ap (λ (ts : List ℕ). 58 ∷ ts) (outline_is parts (v * 2 ^ (16 * k)) rest n h s)

-- whether a byte is in a text
abbrev pub has : ℕ → List ℕ → Bool
has c [] = false
has c (x ∷ xs) = (x == c) || has c xs

or_with : (a b c : Bool) → b ≡ c → (a || b) ≡ (a || c)
or_with a b c e = ap (λ (x : Bool). a || x) e

-- what is no digit is in a text where it is in its outline
kept : (c : ℕ) (run : Bool) (text : List ℕ) → nat_le 16 (digit_value c) ≡ true
    → has c (outline_from run text) ≡ has c text
kept c run [] h = refl
kept c run (x ∷ xs) h = go (λ r. kept c r xs h) run (nat_lt (digit_value x) 16) refl
  where
    differs : nat_lt (digit_value x) 16 ≡ true → (x == c) ≡ false
    differs e = go' (x == c) refl
      where
        go' : (b : Bool) → (x == c) ≡ b → (x == c) ≡ false
        go' false f = f
        go' true f =
            let same : digit_value x ≡ digit_value c = ap digit_value (eqb-true x c f) in
            absurd (let low : digit_value x < 16 = grind (arith, nat_tests) in let high : 16 ≤ digit_value c = grind (arith, nat_tests) in omega (arith, same))

    zero_differs : (48 == c) ≡ false
    zero_differs = go' (48 == c) refl
      where
        go' : (b : Bool) → (48 == c) ≡ b → (48 == c) ≡ false
        go' false f = f
        go' true f =
            let same : digit_value 48 ≡ digit_value c = ap digit_value (eqb-true 48 c f) in
            absurd (let high : 16 ≤ digit_value c = grind (arith, nat_tests) in omega (arith, same))

    go : ((r : Bool) → has c (outline_from r xs) ≡ has c xs) → (run : Bool) (b : Bool) → nat_lt (digit_value x) 16 ≡ b
        → has c (outline_from run (x ∷ xs)) ≡ has c (x ∷ xs)
    go rest run false e = rw e (or_with (x == c) _ _ (rest false))
    go rest true true e = let d = differs e in rw (e, d) (rest true)
    go rest false true e = let d = differs e in rw (e, d, zero_differs) (rest true)

pub has_kept : (c : ℕ) (parts : List Part) (v : ℕ) (text : List ℕ) (n : ℕ) → nat_le 16 (digit_value c) ≡ true
    → is_apart parts ≡ true → Spells parts v text n → has c text ≡ has c (parts_outline parts)
has_kept c parts v text n h a s = sym (kept c false text h) ∙ ap (has c) (outline_is parts v text n a s)

-- the first groups of eight
groups_front_of : (k j : ℕ) → take (2 * k) (groups_before (k + j)) ≡ groups_before k
groups_front_of zero j = refl
groups_front_of (suc k) j =
    let e : 2 * suc k ≡ suc (suc (2 * k)) = omega arith in
    let f : suc k + j ≡ suc (k + j) = omega arith in
    rw (e, f) (ap (λ (ps : List Part). Group ∷ Mark 58 ∷ ps) (groups_front_of k j))

row_front_of : (k j : ℕ) → take (suc (2 * k)) (groups_before (suc (k + j))) ≡ row_parts (suc k)
row_front_of zero j = refl
row_front_of (suc k) j =
    let e : 2 * suc k ≡ suc (suc (2 * k)) = omega arith in
    let f : suc k + j ≡ suc (k + j) = omega arith in
    rw (e, f) (ap (λ (ps : List Part). Group ∷ Mark 58 ∷ ps) (row_front_of k j))

pub groups_front : (k n : ℕ) → n ≡ 2 * k → k ≤ 8 → take n (groups_before 8) ≡ groups_before k
groups_front k n e l =
    let f : k + (8 - k) ≡ 8 = omega (arith, l) in
    ap (λ (m : ℕ). take m (groups_before 8)) e ∙ ap (λ (m : ℕ). take (2 * k) (groups_before m)) (sym f)
    ∙ groups_front_of k (8 - k)

pub row_front : (k n : ℕ) → n ≡ 2 * k - 1 → k ≤ 8 → take n (groups_before 8) ≡ row_parts k
row_front zero n e l = let z : n ≡ 0 = omega (arith, e) in ap (λ (m : ℕ). take m (groups_before 8)) z
row_front (suc k) n e l =
    let z : n ≡ suc (2 * k) = omega (arith, e) in
    let f : suc (k + (7 - k)) ≡ 8 = omega (arith, l) in
    ap (λ (m : ℕ). take m (groups_before 8)) z ∙ ap (λ (m : ℕ). take (suc (2 * k)) (groups_before m)) (sym f)
    ∙ row_front_of k (7 - k)

pub length_before : (k : ℕ) → length (groups_before k) ≡ 2 * k
length_before zero = refl
length_before (suc k) = omega (arith, length_before k)

pub length_row : (k : ℕ) → length (row_parts k) ≡ 2 * k - 1
length_row zero = refl
length_row (suc k) = omega (arith, length_before k, length-append (groups_before k) (Group ∷ []))

pub count_at : (has_tail : Bool) → has_tail ≡ true → group_count has_tail ≡ 6
count_at true e = refl
count_at false e = cc

pub count_without : (has_tail : Bool) → has_tail ≡ false → group_count has_tail ≡ 8
count_without false e = refl
count_without true e = cc

-- which form a text of this outline has: whether there is a tail, whether there is `::`, and how many groups are before it
abbrev count_of : ℕ → List ℕ → ℕ
count_of c [] = 0
count_of c (x ∷ xs) = (if x == c then 1 else 0) + count_of c xs

abbrev has_gap : List ℕ → Bool
has_gap [] = false
has_gap (a ∷ []) = false
has_gap (a ∷ b ∷ s) = ((a == 58) && (b == 58)) || has_gap (b ∷ s)

abbrev before_gap : List ℕ → ℕ
before_gap [] = 0
before_gap (a ∷ []) = 0
before_gap (a ∷ b ∷ s) = if (a == 58) && (b == 58) then 0 else ((if a == 48 then 1 else 0) + before_gap (b ∷ s))

abbrev behind_gap : List ℕ → ℕ
behind_gap s = count_of 48 s - (before_gap s + (if has 46 s then 4 else 0))

abbrev form_of : List ℕ → List Part
form_of s = if has_gap s then shortened_parts (has 46 s) (before_gap s) (behind_gap s) else end_parts (has 46 s) (group_count (has 46 s))

abbrev same_bool : Bool → Bool → Bool
same_bool true b = b
same_bool false b = not b

same_bool_is : (a b : Bool) → same_bool a b ≡ true → a ≡ b
same_bool_is true b h = sym h
same_bool_is false false h = refl
same_bool_is false true h = cc

abbrev shows : Bool → ℕ → ℕ → Bool
shows has_tail left right =
    let s = parts_outline (shortened_parts has_tail left right) in
    has_gap s && same_bool (has 46 s) has_tail && (before_gap s == left) && (behind_gap s == right)

shown : (has_tail : Bool) → all_shortened has_tail (shows has_tail) ≡ true → (left right : ℕ)
    → left + right < group_count has_tail
    → form_of (parts_outline (shortened_parts has_tail left right)) ≡ shortened_parts has_tail left right
shown has_tail h left right l =
    let s = parts_outline (shortened_parts has_tail left right) in
    let t = each_shortened has_tail (shows has_tail) h left right l in
    let gap : has_gap s ≡ true = and_left _ _ (and_left _ _ (and_left _ _ t)) in
    let tail : has 46 s ≡ has_tail = same_bool_is _ _ (and_right _ _ (and_left _ _ (and_left _ _ t))) in
    let before : before_gap s ≡ left = eqb-true _ _ (and_right _ _ (and_left _ _ t)) in
    let behind : behind_gap s ≡ right = eqb-true _ _ (and_right _ _ t) in
    ap (λ (b : Bool). if b then shortened_parts (has 46 s) (before_gap s) (behind_gap s) else end_parts (has 46 s) (group_count (has 46 s))) gap
    ∙ ap (λ (b : Bool). shortened_parts b (before_gap s) (behind_gap s)) tail
    ∙ ap (λ (k : ℕ). shortened_parts has_tail k (behind_gap s)) before
    ∙ ap (λ (k : ℕ). shortened_parts has_tail left k) behind

form_shown : (parts : List Part) → IsForm parts → form_of (parts_outline parts) ≡ parts
form_shown parts (false, inl e) = subst (λ (p : List Part). form_of (parts_outline p) ≡ p) (sym e) refl
form_shown parts (true, inl e) = subst (λ (p : List Part). form_of (parts_outline p) ≡ p) (sym e) refl
form_shown parts (false, inr (left, right, l, e)) = subst (λ (p : List Part). form_of (parts_outline p) ≡ p) (sym e) (shown false refl left right l)
form_shown parts (true, inr (left, right, l, e)) = subst (λ (p : List Part). form_of (parts_outline p) ≡ p) (sym e) (shown true refl left right l)

-- a text is one of one address
pub address6_once : (text : List ℕ) (m n : ℕ) → SpellsAddress6 text m → SpellsAddress6 text n → m ≡ n
unfolding SpellsAddress6
address6_once text m n (parts, f, s) (parts', f', t) =
    let a = form_apart parts f in
    let same : parts' ≡ parts =
    sym (form_shown parts' f')
    ∙ ap form_of (sym (outline_is parts' 0 text n (form_apart parts' f') t) ∙ outline_is parts 0 text m a s)
    ∙ form_shown parts f in
    spelled_once parts 0 text m n a s (subst (λ (p : List Part). Spells p 0 text n) same t)

pub address_once : (text : List ℕ) (m n : ℕ) → SpellsAddress text m → SpellsAddress text n → m ≡ n
unfolding SpellsAddress
address_once text m n s t = spelled_once address_parts 0 text m n refl s t

-- no text is of both versions: one has a colon
pub one_version : (text : List ℕ) (m n : ℕ) → SpellsAddress text m → SpellsAddress6 text n → ⊥
unfolding SpellsAddress SpellsAddress6
one_version text m n s (parts, f, t) =
    let four : has 58 text ≡ false = has_kept 58 address_parts 0 text m refl refl s in
    let six : has 58 text ≡ true = has_kept 58 parts 0 text n refl (form_apart parts f) t
    ∙ each_form (λ p. has 58 (parts_outline p)) refl refl parts f in
    cc

pub addr_once : (text : List ℕ) (a b : Addr) → SpellsAddr text a → SpellsAddr text b → a ≡ b
addr_once text (V4 m) (V4 n) s t = ap V4 (address_once text m n s t)
addr_once text (V4 m) (V6 n) s t = absurd (one_version text m n s t)
addr_once text (V6 m) (V4 n) s t = absurd (one_version text n m t s)
addr_once text (V6 m) (V6 n) s t = ap V6 (address6_once text m n s t)

-- no text of an address has a slash
no_slash_four : (text : List ℕ) (n : ℕ) → SpellsAddress text n → has 47 text ≡ false
unfolding SpellsAddress
no_slash_four text n s = has_kept 47 address_parts 0 text n refl refl s

not_true : (b : Bool) → not b ≡ true → b ≡ false
not_true false e = refl
not_true true e = cc

no_slash_six : (text : List ℕ) (n : ℕ) → SpellsAddress6 text n → has 47 text ≡ false
unfolding SpellsAddress6
no_slash_six text n (parts, f, s) =
    has_kept 47 parts 0 text n refl (form_apart parts f) s
    ∙ not_true _ (each_form (λ p. not (has 47 (parts_outline p))) refl refl parts f)

pub no_slash : (text : List ℕ) (a : Addr) → SpellsAddr text a → has 47 text ≡ false
no_slash text (V4 n) s = no_slash_four text n s
no_slash text (V6 n) s = no_slash_six text n s

-- a byte that a text doesn't have is at no place of it
has_at : (c : ℕ) (text : List ℕ) (k : ℕ) → has c text ≡ false → k < length text → get_or text k 0 ≡ c → ⊥
has_at c [] k h l e = omega (arith, l)
has_at c (x ∷ xs) zero h l e =
    let no : (x == c) ≡ false = or_none _ _ h in
    let yes : (x == c) ≡ true = grind (arith, nat_tests) in
    cc
has_at c (x ∷ xs) (suc k) h l e = has_at c xs k (or_neither _ _ h) (omega (arith, l)) e

pub no_slash_at : (text : List ℕ) (a : Addr) → SpellsAddr text a → (k : ℕ) → k < length text → get_or text k 0 ≡ 47
    → ⊥
no_slash_at text a s k l e = has_at 47 text k (no_slash text a s) l e
