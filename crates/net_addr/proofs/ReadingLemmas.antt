-- What a reading says of the whole text.
use Rattle.std.proofs.Common.{◌≡◌, ℕ, suc, ◌+◌, ◌-◌, ◌*◌, ◌^◌, ◌<◌, ◌≤◌, List, [], ◌∷◌, ◌++◌, length, take, drop, get_or, true, refl, sym, subst, ap, ◌∙◌, arith, append_assoc}
use Rattle.std.proofs.Math.Seq.{take-add, take-suc}
use Rattle.std.proofs.Math.Nat.{mul-le-mul_right}
use Rattle.std.specs.Char.{digit_value}
use Rattle.std.specs.Fmt.{decimal}
use Rattle.std.specs.Str.Parse.{AllDigits, digits_value}
use Rattle.net_addr.specs.Spelling.{Spells, IsTextOf, Begins, IsLongestStart, address_parts, mac_parts}
use Rattle.net_addr.specs.Reading.{Follows, IsReading, Remains, is_clear, value_count}
use Rattle.net_addr.specs.declared.spelling.Part.{Part}
use Rattle.net_addr.specs.declared.spelling.Part.TheVariants.{Number, Digit, Mark, Group, Gap}
use Rattle.net_addr.specs.declared.spelling.State.{State}
use Rattle.net_addr.specs.declared.spelling.State.TheVariants.{Between, InNumber, InGroup}
use Rattle.net_addr.proofs.SpellingLemmas.{completes, append_none, power_pos, top_small, and_right}

pub take_all : (xs : List ℕ) → take (length xs) xs ≡ xs
take_all [] = refl
take_all (x ∷ xs) = ap (λ (ys : List ℕ). x ∷ ys) (take_all xs)

-- a longer front of a text is a shorter one, the next byte and more
longer_front : (xs : List ℕ) (i k : ℕ) → i < k → k ≤ length xs → (more : List ℕ) × (take k xs ≡ take i xs ++ (get_or xs i 0 ∷ more))
longer_front xs i k below within =
    let j = k - suc i in
    let e : suc i + j ≡ k = omega arith in (
      take j (drop (suc i) xs),
      ap (λ (m : ℕ). take m xs) (sym e) ∙ take-add (suc i) j xs ∙ ap (λ (ys : List ℕ). ys ++ take j (drop (suc i) xs)) (take-suc xs i 0 (omega arith))
          ∙ append_assoc (take i xs) (get_or xs i 0 ∷ []) (take j (drop (suc i) xs)),
    )

pub some_completes : (parts : List Part) (v : ℕ) (d : State) → IsReading parts v d → (text : List ℕ) × ((n : ℕ) × Remains parts v d text n)
some_completes parts v Between h = completes parts v
some_completes parts v (InNumber d) h =
    let (t, w) = completes parts (v * 256 + d.number) in
    (t, (w.0, (d.number, [], t, h.2, sym (append_none (decimal d.number)), refl, w.1)))
some_completes parts v (InGroup g) h =
    let (t, w) = completes parts (v * 2 ^ 16 + g.number) in
    (t, (w.0, ([], t, omega (arith, h), tt, refl, w.1)))

pub begins_seen : (all : List Part) (seen : List ℕ) (parts : List Part) (v : ℕ) (d : State) → Follows all seen parts v d → Begins (IsTextOf all) seen
begins_seen all seen parts v d f = let (t, w) = some_completes parts v d f.reading in (t, (w.0, (f.same t w.0).1 w.1))

-- no text of the parts has this byte behind those that were seen
abbrev pub NoneHas : List Part → ℕ → State → ℕ → Type 0
NoneHas parts v d c = (text : List ℕ) (n : ℕ) → Remains parts v d (c ∷ text) n → ⊥

stuck : (all : List Part) (seen : List ℕ) (parts : List Part) (v : ℕ) (d : State) (c : ℕ) → Follows all seen parts v d → NoneHas parts v d c
    → (text more rest : List ℕ) → text ≡ seen ++ (c ∷ more) → IsTextOf all (text ++ rest) → ⊥
stuck all seen parts v d c f none text more rest e (n, s) =
    let whole : text ++ rest ≡ seen ++ (c ∷ (more ++ rest)) = ap (λ (ts : List ℕ). ts ++ rest) e ∙ append_assoc seen (c ∷ more) rest in
    none (more ++ rest) n ((f.same (c ∷ (more ++ rest)) n).0 (subst (λ (ts : List ℕ). Spells all 0 ts n) whole s))

pub stuck_starts : (all : List Part) (text : List ℕ) (at : ℕ) (parts : List Part) (v : ℕ) (d : State) → at < length text → Follows all (take at text) parts v d
    → NoneHas parts v d (get_or text at 0) → IsLongestStart (IsTextOf all) text at
stuck_starts all text at parts v d within f none = record {
  within = omega arith;
  begins = begins_seen all (take at text) parts v d f;
  longest = λ k below inside b.
      let w = longer_front text at k below inside in
      stuck all (take at text) parts v d (get_or text at 0) f none (take k text) w.0 b.0 w.1 b.1;
}

pub stuck_refuses : (all : List Part) (text : List ℕ) (at : ℕ) (parts : List Part) (v : ℕ) (d : State) → at < length text → Follows all (take at text) parts v d
    → NoneHas parts v d (get_or text at 0) → IsTextOf all text → ⊥
stuck_refuses all text at parts v d within f none (n, s) =
    let w = longer_front text at (length text) within (omega arith) in
    stuck all (take at text) parts v d (get_or text at 0) f none text w.0 [] (sym (take_all text) ∙ w.1) (n, subst (λ (ts : List ℕ). Spells all 0 ts n) (sym (append_none text)) s)

-- at the end of the text
pub followed : (all : List Part) (text : List ℕ) (at : ℕ) (parts : List Part) (v : ℕ) (d : State) → at ≡ length text → Follows all (take at text) parts v d → Follows all text parts v d
followed all text at parts v d e f = subst (λ (ts : List ℕ). Follows all ts parts v d) (ap (λ (m : ℕ). take m text) e ∙ take_all text) f

pub unfinished_starts : (all : List Part) (text : List ℕ) (parts : List Part) (v : ℕ) (d : State) → Follows all text parts v d → IsLongestStart (IsTextOf all) text (length text)
unfinished_starts all text parts v d f = record {
  within = omega arith;
  begins = subst (λ (ts : List ℕ). Begins (IsTextOf all) ts) (sym (take_all text)) (begins_seen all text parts v d f);
  longest = λ k below inside b. omega arith;
}

pub at_end : (all : List Part) (text : List ℕ) (parts : List Part) (v : ℕ) (d : State) (n : ℕ) → Follows all text parts v d
    → (Spells all 0 text n → Remains parts v d [] n) × (Remains parts v d [] n → Spells all 0 text n)
at_end all text parts v d n f =
    let e = append_none text in
    (λ s. (f.same [] n).0 (subst (λ (ts : List ℕ). Spells all 0 ts n) (sym e) s), λ r. subst (λ (ts : List ℕ). Spells all 0 ts n) e ((f.same [] n).1 r))

-- four digits write a number of 16 bits
pub group_small : (ds : List ℕ) → length ds ≤ 4 → AllDigits 16 ds → digits_value 16 ds < 2 ^ 16
group_small [] few h = omega arith
group_small (a ∷ []) few h = omega (arith, h.0)
group_small (a ∷ b ∷ []) few h = omega (arith, h.0, h.1.0)
group_small (a ∷ b ∷ c ∷ []) few h = omega (arith, h.0, h.1.0, h.1.1.0)
group_small (a ∷ b ∷ c ∷ d ∷ []) few h = omega (arith, h.0, h.1.0, h.1.1.0, h.1.1.1.0)
group_small (a ∷ b ∷ c ∷ d ∷ e ∷ ds) few h = absurd (omega (arith, few))

-- a spelled number is among those that the parts tell apart
spelled_below : (parts : List Part) (v : ℕ) (text : List ℕ) (n : ℕ) → is_clear parts ≡ true → Spells parts v text n → n + 1 ≤ (v + 1) * value_count parts
unfolding Spells
spelled_below [] v text n clear s = omega (arith, s.1)
spelled_below (Number top ∷ parts) v text n clear (m, rest, hm, e, s) =
    let bound : top < 256 = top_small top parts clear in
    let less : v * 256 + m + 1 ≤ (v + 1) * 256 = omega arith in
    omega (arith, spelled_below parts (v * 256 + m) rest n (and_right _ _ clear) s, mul-le-mul_right (value_count parts) less)
spelled_below (Digit ∷ parts) v text n clear (c, rest, h, e, s) =
    let less : v * 16 + digit_value c + 1 ≤ (v + 1) * 16 = omega arith in
    omega (arith, spelled_below parts (v * 16 + digit_value c) rest n clear s, mul-le-mul_right (value_count parts) less)
spelled_below (Mark c ∷ parts) v text n clear (rest, e, s) = spelled_below parts v rest n clear s
spelled_below (Group ∷ parts) v text n clear (ds, rest, some, few, h, e, s) =
    let small : digits_value 16 ds < 2 ^ 16 = group_small ds few h in
    let less : v * 2 ^ 16 + digits_value 16 ds + 1 ≤ (v + 1) * 2 ^ 16 = omega arith in
    omega (arith, spelled_below parts (v * 2 ^ 16 + digits_value 16 ds) rest n (and_right _ _ clear) s, mul-le-mul_right (value_count parts) less)
spelled_below (Gap k ∷ parts) v text n clear (rest, e, s) =
    let less : v * 2 ^ (16 * k) + 1 ≤ (v + 1) * 2 ^ (16 * k) = omega (arith, power_pos (16 * k)) in
    omega (arith, spelled_below parts (v * 2 ^ (16 * k)) rest n clear s, mul-le-mul_right (value_count parts) less)

pub address_fits : (text : List ℕ) (n : ℕ) → Spells address_parts 0 text n → n < 2 ^ 32
address_fits text n s = omega (arith, spelled_below address_parts 0 text n refl s)

pub mac_fits : (text : List ℕ) (n : ℕ) → Spells mac_parts 0 text n → n < 2 ^ 48
mac_fits text n s = omega (arith, spelled_below mac_parts 0 text n refl s)

-- texts of two grammars with the same texts start alike
pub starts_along : (P Q : List ℕ → Type 0) (text : List ℕ) (at : ℕ) → ((t : List ℕ) → P t → Q t) → ((t : List ℕ) → Q t → P t) → IsLongestStart P text at → IsLongestStart Q text at
starts_along P Q text at to from s = record {
  within = s.within;
  begins = (s.begins.0, to _ s.begins.1);
  longest = λ k below inside b. s.longest k below inside (b.0, from _ b.1);
}
