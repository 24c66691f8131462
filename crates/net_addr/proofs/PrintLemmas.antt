-- The printed texts spell what was printed.
use Rattle.std.proofs.Common.{◌≡◌, ◌∙◌, ℕ, ◌+◌, ◌*◌, ◌/◌, ◌%◌, ◌^◌, ◌<◌, ◌≤◌, Bool, true, false, List, [], ◌∷◌, ◌++◌, ap, codes, refl, sym, subst, arith, append_assoc, Result, Ok, Err}
use Rattle.std.specs.Prelude.{IfOk, IsAscii, if◌then◌else◌, nat_lt}
use Rattle.std.proofs.lemmas.Fmt.{IsAscii-decimal, decimal_digit, decimal_step}
use Rattle.std.proofs.lemmas.Str.{IsAscii-append}
use Rattle.std.proofs.lemmas.Str.Ascii.{IsAscii-cons, IsAscii-nil}
use Rattle.std.specs.Char.{digit_value}
use Rattle.std.specs.Fmt.{decimal, digit_glyph}
use Rattle.std.proofs.lemmas.Str.{digit_value-digit_char}
use Rattle.net_addr.proofs.SpellingLemmas.{append_none}
use Rattle.net_addr.specs.Spelling.{Spells, SpellsAddress, SpellsMac, address_parts, address_text, mac_text, pair_text}
use Rattle.net_addr.specs.declared.spelling.Part.{Part}
use Rattle.net_addr.specs.declared.spelling.Part.TheVariants.{Digit, Mark}

dotted : (a b c d : ℕ) → a ≤ 255 → b ≤ 255 → c ≤ 255 → d ≤ 255
    → Spells address_parts 0 (decimal a ++ codes "." ++ decimal b ++ codes "." ++ decimal c ++ codes "." ++ decimal d) ((((0 * 256 + a) * 256 + b) * 256 + c) * 256 + d)
unfolding Spells
dotted a b c d ha hb hc hd = (
  a,
  46 ∷ (decimal b ++ (46 ∷ (decimal c ++ (46 ∷ decimal d)))),
  ha,
  simp append_assoc,
  (
    decimal b ++ (46 ∷ (decimal c ++ (46 ∷ decimal d))),
    refl,
    (
      b,
      46 ∷ (decimal c ++ (46 ∷ decimal d)),
      hb,
      refl,
      (decimal c ++ (46 ∷ decimal d), refl, (c, 46 ∷ decimal d, hc, refl, (decimal d, refl, (d, [], hd, sym (append_none (decimal d)), (refl, refl))))),
    ),
  ),
)

pub address_spelled : (n : ℕ) → n < 2 ^ 32 → SpellsAddress (address_text n) n
unfolding SpellsAddress address_text Spells
address_spelled n h =
    let e : (((0 * 256 + n / 2 ^ 24) * 256 + n / 2 ^ 16 % 256) * 256 + n / 2 ^ 8 % 256) * 256 + n % 256 ≡ n = omega arith in
    subst (λ (m : ℕ). Spells address_parts 0 (decimal (n / 2 ^ 24) ++ codes "." ++ decimal (n / 2 ^ 16 % 256) ++ codes "." ++ decimal (n / 2 ^ 8 % 256) ++ codes "." ++ decimal (n % 256)) m) e
    (dotted (n / 2 ^ 24) (n / 2 ^ 16 % 256) (n / 2 ^ 8 % 256) (n % 256) (omega arith) (omega arith) (omega arith) (omega arith))

glyph_value : (d : ℕ) → d < 16 → digit_value (digit_glyph false d) ≡ d
glyph_value d h = digit_value-digit_char d (omega arith)

pair_spelled : (parts : List Part) (v b : ℕ) (rest : List ℕ) (n : ℕ) → b < 256 → Spells parts (v * 256 + b) rest n → Spells (Digit ∷ Digit ∷ parts) v (pair_text b ++ rest) n
unfolding Spells
pair_spelled parts v b rest n h s =
    let high = glyph_value (b / 16) (omega arith) in
    let low = glyph_value (b % 16) (omega arith) in
    let e : v * 256 + b ≡ (v * 16 + digit_value (digit_glyph false (b / 16))) * 16 + digit_value (digit_glyph false (b % 16)) = omega arith in (
      digit_glyph false (b / 16),
      digit_glyph false (b % 16) ∷ rest,
      omega arith,
      refl,
      (digit_glyph false (b % 16), rest, omega arith, refl, subst (λ (w : ℕ). Spells parts w rest n) e s),
    )

marked_spelled : (parts : List Part) (v b : ℕ) (rest : List ℕ) (n : ℕ) → b < 256 → Spells parts (v * 256 + b) rest n → Spells (Digit ∷ Digit ∷ Mark 58 ∷ parts) v (pair_text b ++ (58 ∷ rest)) n
unfolding Spells
marked_spelled parts v b rest n h s = pair_spelled (Mark 58 ∷ parts) v b (58 ∷ rest) n h (rest, refl, s)

pub mac_spelled : (n : ℕ) → n < 2 ^ 48 → SpellsMac (mac_text n) n
unfolding SpellsMac mac_text Spells
mac_spelled n h =
    let a = n / 2 ^ 40 in
    let b = n / 2 ^ 32 % 256 in
    let c = n / 2 ^ 24 % 256 in
    let d = n / 2 ^ 16 % 256 in
    let e = n / 2 ^ 8 % 256 in
    let f = n % 256 in
    let p5 = Digit ∷ Digit ∷ [] in
    let p4 = Digit ∷ Digit ∷ Mark 58 ∷ p5 in
    let p3 = Digit ∷ Digit ∷ Mark 58 ∷ p4 in
    let p2 = Digit ∷ Digit ∷ Mark 58 ∷ p3 in
    let p1 = Digit ∷ Digit ∷ Mark 58 ∷ p2 in
    let t5 = pair_text f ++ [] in
    let t4 = pair_text e ++ (58 ∷ t5) in
    let t3 = pair_text d ++ (58 ∷ t4) in
    let t2 = pair_text c ++ (58 ∷ t3) in
    let t1 = pair_text b ++ (58 ∷ t2) in
    let v1 = 0 * 256 + a in
    let v2 = v1 * 256 + b in
    let v3 = v2 * 256 + c in
    let v4 = v3 * 256 + d in
    let v5 = v4 * 256 + e in
    let whole : n ≡ v5 * 256 + f = omega arith in
    marked_spelled p1 0 a t1 n (omega arith)
    (marked_spelled p2 v1 b t2 n (omega arith)
    (marked_spelled p3 v2 c t3 n (omega arith)
    (marked_spelled p4 v3 d t4 n (omega arith) (marked_spelled p5 v4 e t5 n (omega arith) (pair_spelled [] v5 f [] n (omega arith) (refl, whole))))))

-- what a result says of its text, it says of an equal one
pub ok_text : {E : Type 0} (r : Result (List ℕ) E) (P : List ℕ → Type 0) (bytes text : List ℕ) → bytes ≡ text → P text → IfOk r (λ t. t ≡ bytes) → IfOk r P
ok_text (Ok t) P bytes text e p h = subst P (sym (h ∙ e)) p
ok_text (Err x) P bytes text e p h = h

-- the printed texts are ASCII

glyph_ascii : (d : ℕ) → d < 16 → digit_glyph false d < 128
glyph_ascii d h = by (nat_lt d 10)
  where
    by : (b : Bool) → (if b then 48 + d else 87 + d) < 128
    by true = omega (arith, h)
    by false = omega (arith, h)

pair_ascii : (b : ℕ) → b < 256 → IsAscii (pair_text b)
pair_ascii b h =
    let low = digit_glyph false (b % 16) in
    IsAscii-cons (digit_glyph false (b / 16)) (low ∷ []) (glyph_ascii (b / 16) (omega (arith, h))) (IsAscii-cons low [] (glyph_ascii (b % 16) (omega arith)) IsAscii-nil)

coloned_ascii : (b : ℕ) (rest : List ℕ) → b < 256 → IsAscii rest → IsAscii (pair_text b ++ (58 ∷ rest))
coloned_ascii b rest h r = IsAscii-append (pair_text b) (58 ∷ rest) (pair_ascii b h) (IsAscii-cons 58 rest (omega arith) r)

pub mac_ascii : (n : ℕ) → n < 2 ^ 48 → IsAscii (mac_text n)
unfolding mac_text
mac_ascii n h =
    let t5 = pair_text (n % 256) in
    let t4 = pair_text (n / 2 ^ 8 % 256) ++ (58 ∷ t5) in
    let t3 = pair_text (n / 2 ^ 16 % 256) ++ (58 ∷ t4) in
    let t2 = pair_text (n / 2 ^ 24 % 256) ++ (58 ∷ t3) in
    let t1 = pair_text (n / 2 ^ 32 % 256) ++ (58 ∷ t2) in
    coloned_ascii (n / 2 ^ 40) t1 (omega arith)
    (coloned_ascii (n / 2 ^ 32 % 256) t2 (omega arith)
    (coloned_ascii (n / 2 ^ 24 % 256) t3 (omega arith)
    (coloned_ascii (n / 2 ^ 16 % 256) t4 (omega arith) (coloned_ascii (n / 2 ^ 8 % 256) t5 (omega arith) (pair_ascii (n % 256) (omega arith))))))

dotted_ascii : (xs : List ℕ) (m : ℕ) → IsAscii xs → m < 256 → IsAscii (xs ++ (46 ∷ []) ++ decimal m)
dotted_ascii xs m ascii h =
    IsAscii-append (xs ++ (46 ∷ [])) (decimal m) (IsAscii-append xs (46 ∷ []) ascii (IsAscii-cons 46 [] (omega arith) IsAscii-nil)) (IsAscii-decimal m (omega (arith, h)))

pub address_ascii : (n : ℕ) → n < 2 ^ 32 → IsAscii (address_text n)
unfolding address_text
address_ascii n h =
    let a = decimal (n / 2 ^ 24) in
    let b = a ++ (46 ∷ []) ++ decimal (n / 2 ^ 16 % 256) in
    let c = b ++ (46 ∷ []) ++ decimal (n / 2 ^ 8 % 256) in
    dotted_ascii c (n % 256)
    (dotted_ascii b (n / 2 ^ 8 % 256) (dotted_ascii a (n / 2 ^ 16 % 256) (IsAscii-decimal (n / 2 ^ 24) (omega arith)) (omega arith)) (omega arith))
    (omega arith)

-- a byte in decimal, digit by digit, after a text

pub one_digit : (xs : List ℕ) (n : ℕ) → n < 10 → xs ++ ((48 + n) ∷ []) ≡ xs ++ decimal n
one_digit xs n h = ap (λ ds. xs ++ ds) (sym (decimal_digit n h))

two : (n : ℕ) → 10 ≤ n → n < 100 → decimal n ≡ (48 + n / 10) ∷ (48 + n % 10) ∷ []
two n l h = decimal_step n l (omega (arith, h)) ∙ ap (λ ds. ds ++ ((48 + n % 10) ∷ [])) (decimal_digit (n / 10) (omega (arith, h)))

pub two_digits : (xs : List ℕ) (n : ℕ) → 10 ≤ n → n < 100 → (xs ++ ((48 + n / 10) ∷ [])) ++ ((48 + n % 10) ∷ []) ≡ xs ++ decimal n
two_digits xs n l h = append_assoc xs ((48 + n / 10) ∷ []) ((48 + n % 10) ∷ []) ∙ ap (λ ds. xs ++ ds) (sym (two n l h))

three : (n : ℕ) → 100 ≤ n → n < 256 → decimal n ≡ (48 + n / 100) ∷ (48 + n / 10 % 10) ∷ (48 + n % 10) ∷ []
three n l h =
    let first : n / 10 / 10 ≡ n / 100 = omega arith in
    decimal_step n (omega (arith, l)) (omega (arith, h))
    ∙ ap (λ ds. ds ++ ((48 + n % 10) ∷ [])) (two (n / 10) (omega (arith, l)) (omega (arith, h)))
    ∙ ap (λ m. (48 + m) ∷ (48 + n / 10 % 10) ∷ (48 + n % 10) ∷ []) first

pub three_digits : (xs : List ℕ) (n : ℕ) → 100 ≤ n → n < 256
    → ((xs ++ ((48 + n / 100) ∷ [])) ++ ((48 + n / 10 % 10) ∷ [])) ++ ((48 + n % 10) ∷ []) ≡ xs ++ decimal n
three_digits xs n l h =
    append_assoc (xs ++ ((48 + n / 100) ∷ [])) ((48 + n / 10 % 10) ∷ []) ((48 + n % 10) ∷ [])
    ∙ append_assoc xs ((48 + n / 100) ∷ []) ((48 + n / 10 % 10) ∷ (48 + n % 10) ∷ []) ∙ ap (λ ds. xs ++ ds) (sym (three n l h))
