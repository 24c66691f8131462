-- Reading a group digit by digit: what one more byte does to what may still come.
use Rattle.std.proofs.Common.{◌≡◌, ℕ, ◌+◌, ◌*◌, ◌^◌, ◌<◌, ◌≤◌, List, [], ◌∷◌, ◌++◌, inl, inr, true, Option, refl, sym, subst, ap, ◌∙◌, arith}
use Rattle.std.specs.Char.{digit_value}
use Rattle.std.specs.Str.Parse.{digits_value_after}
use Rattle.std.proofs.Math.Nat.{mul-le-mul_right}
use Rattle.std.proofs.lemmas.Bool.{cases_lt}
use Rattle.std.proofs.Math.Pow.{pow_mono, pow-add}
use Rattle.net_addr.specs.Spelling.{Spells}
use Rattle.net_addr.specs.Reading.{Agree, Ends, GroupGoesOn, IsReading, no_digit_next, value_count}
use Rattle.net_addr.specs.declared.spelling.Part.{Part}
use Rattle.net_addr.specs.declared.spelling.Part.TheVariants.{Group, Gap}
use Rattle.net_addr.specs.declared.spelling.State.TheVariants.{Between, InGroup}
use Rattle.net_addr.proofs.SpellingLemmas.{and_left, and_right, count_pos, ends_along, not_a_digit, power_pos, room_behind, room_fits}

-- the first digit
pub begins_group : (v c : ℕ) (parts : List Part) (text : List ℕ) (n : ℕ) → Spells (Group ∷ parts) v (c ∷ text) n
    → (digit_value c < 16) × GroupGoesOn parts v 1 (digit_value c) text n
unfolding Spells
begins_group v c parts text n ([], rest, some, few, h, e, s) = absurd (omega (arith, some))
begins_group v c parts text n (d ∷ ds, rest, some, few, h, e, s) =
    let same : d ≡ c = cc in
    let back : text ≡ ds ++ rest = cc in
    let m : 0 * 16 + digit_value d ≡ digit_value c = omega (arith, ap digit_value same) in (
      subst (λ (x : ℕ). digit_value x < 16) same h.0,
      (ds, rest, omega (arith, few), h.1, back, subst (λ (k : ℕ). Spells parts (v * 2 ^ 16 + digits_value_after 16 k ds) rest n) m s),
    )

pub group_agrees : (v c : ℕ) (parts : List Part) → digit_value c < 16
    → Agree (λ text n. Spells (Group ∷ parts) v (c ∷ text) n) (GroupGoesOn parts v 1 (digit_value c))
unfolding Spells
group_agrees v c parts d text n = (
  λ s. (begins_group v c parts text n s).1,
  λ (ds, rest, few, h, e, s).
      let m : digit_value c ≡ 0 * 16 + digit_value c = omega arith in (
        c ∷ ds,
        rest,
        omega arith,
        omega (arith, few),
        (d, h),
        ap (λ (ts : List ℕ). c ∷ ts) e,
        subst (λ (k : ℕ). Spells parts (v * 2 ^ 16 + digits_value_after 16 k ds) rest n) m s,
      ),
)

-- one more digit
pub digit_more : (parts : List Part) (v count m c : ℕ) (text : List ℕ) (n : ℕ) → no_digit_next 16 parts ≡ true
    → digit_value c < 16 → GroupGoesOn parts v count m (c ∷ text) n
    → (count < 4) × GroupGoesOn parts v (count + 1) (m * 16 + digit_value c) text n
digit_more parts v count m c text n clear d ([], rest, few, h, e, s) =
    absurd (not_a_digit 16 parts (v * 2 ^ 16 + m) c text n clear d (subst (λ (ts : List ℕ). Spells parts (v * 2 ^ 16 + m) ts n) (sym e) s))
digit_more parts v count m c text n clear d (x ∷ xs, rest, few, h, e, s) =
    let same : x ≡ c = cc in
    let back : text ≡ xs ++ rest = cc in (
      omega (arith, few),
      (xs, rest, omega (arith, few), h.1, back, subst (λ (y : ℕ). Spells parts (v * 2 ^ 16 + digits_value_after 16 (m * 16 + digit_value y) xs) rest n) same s),
    )

pub more_agrees : (parts : List Part) (v count m c : ℕ) → no_digit_next 16 parts ≡ true → digit_value c < 16
    → Agree (λ text n. GroupGoesOn parts v count m (c ∷ text) n) (GroupGoesOn parts v (count + 1) (m * 16 + digit_value c))
more_agrees parts v count m c clear d text n = (
  λ g. (digit_more parts v count m c text n clear d g).1,
  λ (ds, rest, few, h, e, s). (c ∷ ds, rest, omega (arith, few), (d, h), ap (λ (ts : List ℕ). c ∷ ts) e, s),
)

-- the group is whole where no digit follows
pub group_whole : (parts : List Part) (v count m : ℕ) (text : List ℕ) (n : ℕ)
    → ((c : ℕ) (ts : List ℕ) → text ≡ c ∷ ts → digit_value c < 16 → ⊥) → count ≤ 4
    → (GroupGoesOn parts v count m text n → Spells parts (v * 2 ^ 16 + m) text n) × (Spells parts (v * 2 ^ 16 + m) text n → GroupGoesOn parts v count m text n)
group_whole parts v count m text n none few = (λ g. whole none g, λ s. ([], text, omega (arith, few), tt, refl, s))
  where
    whole : ((c : ℕ) (ts : List ℕ) → text ≡ c ∷ ts → digit_value c < 16 → ⊥) → GroupGoesOn parts v count m text n
        → Spells parts (v * 2 ^ 16 + m) text n
    whole none ([], rest, le, h, e, s) = subst (λ (ts : List ℕ). Spells parts (v * 2 ^ 16 + m) ts n) (sym e) s
    whole none (d ∷ ds, rest, le, h, e, s) = absurd (none d (ds ++ rest) e h.0)

pub group_ended : (parts : List Part) (v count m c : ℕ) → count ≤ 4 → (digit_value c < 16 → ⊥)
    → Agree (λ text n. GroupGoesOn parts v count m (c ∷ text) n) (λ text n. Spells parts (v * 2 ^ 16 + m) (c ∷ text) n)
group_ended parts v count m c few none text n =
    group_whole parts v count m (c ∷ text) n (λ x ts e d. let same : x ≡ c = cc in none (subst (λ (y : ℕ). digit_value y < 16) same d)) few

pub ends_group : (parts : List Part) (v count m : ℕ) (r : Option ℕ) → count ≤ 4
    → Ends (Spells parts (v * 2 ^ 16 + m)) r → Ends (GroupGoesOn parts v count m) r
ends_group parts v count m r few e =
    ends_along (GroupGoesOn parts v count m) (Spells parts (v * 2 ^ 16 + m)) r (λ n. group_whole parts v count m [] n (λ c ts e d. cc) few) e

-- room
pub readied_group : (v d : ℕ) (parts : List Part) → IsReading (Group ∷ parts) v Between → d < 16
    → IsReading parts v (InGroup (record { count = 1; number = d }))
readied_group v d parts h small = (and_right _ _ h.0, and_left _ _ h.0, omega arith, omega arith, h.1)

pub grown_small : (count m : ℕ) → count < 4 → m < 2 ^ (4 * count) → m < 4096
grown_small count m few small = omega (arith, small, pow_mono {i = 4 * count} {j = 12} (omega arith))

pub grown_group : (parts : List Part) (v count m d : ℕ)
    → IsReading parts v (InGroup (record { count = count; number = m })) → count < 4 → d < 16
    → IsReading parts v (InGroup (record { count = count + 1; number = m * 16 + d }))
grown_group parts v count m d h few small =
    let e : 4 * count + 4 ≡ 4 * (count + 1) = omega arith in
    let p : 2 ^ (4 * count) * 16 ≡ 2 ^ (4 * (count + 1)) = sym (pow-add 2 (4 * count) 4) ∙ ap (λ (k : ℕ). 2 ^ k) e in
    let less : m * 16 + d < 2 ^ (4 * count) * 16 = omega (arith, h.3, small) in
    (h.0, h.1, omega arith, subst (λ (k : ℕ). m * 16 + d < k) p less, h.4)

pub group_bound : (count m : ℕ) → count ≤ 4 → m < 2 ^ (4 * count) → m < 2 ^ 16
group_bound count m few small = omega (arith, small, pow_mono {i = 4 * count} {j = 16} (omega arith))

pub group_fits : (parts : List Part) (v count m : ℕ)
    → IsReading parts v (InGroup (record { count = count; number = m })) → v * 2 ^ 16 + m < 2 ^ 128
group_fits parts v count m h = room_fits _ _ (count_pos parts) (room_behind v (2 ^ 16) m (value_count parts) (group_bound count m h.2 h.3) h.4)

pub group_reading : (parts : List Part) (v count m : ℕ)
    → IsReading parts v (InGroup (record { count = count; number = m })) → IsReading parts (v * 2 ^ 16 + m) Between
group_reading parts v count m h = (h.0, room_behind v (2 ^ 16) m (value_count parts) (group_bound count m h.2 h.3) h.4)

pub gap_room : (v k : ℕ) (parts : List Part) → IsReading (Gap k ∷ parts) v Between
    → (v * 2 ^ (16 * k) + 1) * value_count parts ≤ 2 ^ 128
gap_room v k parts h =
    let r = room_behind v (2 ^ (16 * k)) 0 (value_count parts) (power_pos (16 * k)) h.1 in
    let e : v * 2 ^ (16 * k) + 0 ≡ v * 2 ^ (16 * k) = omega arith in
    subst (λ (w : ℕ). (w + 1) * value_count parts ≤ 2 ^ 128) e r

pub gap_fits : (v k : ℕ) (parts : List Part) → IsReading (Gap k ∷ parts) v Between → v * 2 ^ (16 * k) < 2 ^ 128
gap_fits v k parts h = room_fits _ _ (count_pos parts) (gap_room v k parts h)

-- a value with bits behind it leaves less room than the bits
pub shift_small : (v k : ℕ) → 0 < v → v * 2 ^ k < 2 ^ 128 → k < 128
shift_small v k pos room = elim (cases_lt k 128) [
  | inl l ↦ l
  | inr l ↦ absurd (omega (arith, pow_mono {i = 128} {j = k} l, mul-le-mul_right (2 ^ k) pos, room))
]
