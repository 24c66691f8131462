-- Texts of addresses, MACs, prefixes and numbers, read.
use Rattle.std.proofs.Common.{◌≡◌, ℕ, ◌+◌, ◌*◌, ◌/◌, ◌%◌, ◌^◌, ◌<◌, ◌≤◌, Bool, true, false, List, [], ◌∷◌, ◌++◌, map, Some, None, codes, refl, sym, ap, ◌∙◌, subst, arith, append_assoc}
use Rattle.std.proofs.lemmas.Bool.Decides.{nat_tests}
use Rattle.std.proofs.lemmas.Fmt.{decimal_injective}
use Rattle.std.proofs.lemmas.Slice.Eq.{bytes_eq-Decides}
use Rattle.std.specs.Char.{digit_value, to_ascii_lowercase}
use Rattle.std.specs.Fmt.{decimal, digit_glyph}
use Rattle.std.specs.Str.{bytes_eq}
use Rattle.net_addr.proofs.PrintLemmas.{address_spelled}
use Rattle.net_addr.proofs.SpellingLemmas.{append_none}
use Rattle.net_addr.specs.Spelling.{Spells, SpellsAddress, SpellsMac, IsAddressText, IsMacText, address_text, mac_text, pair_text}
use Rattle.json_values.proofs.SoughtLemmas.{passes, found, nothing}
use Rattle.json_values.specs.Numbers.{number_in, four_in, mac_in}

-- ---- addresses

four_bytes : (a b c d : ℕ) → a ≤ 255 → b ≤ 255 → c ≤ 255 → d ≤ 255
    → address_text ((((0 * 256 + a) * 256 + b) * 256 + c) * 256 + d) ≡ decimal a ++ (46 ∷ (decimal b ++ (46 ∷ (decimal c ++ (46 ∷ decimal d)))))
unfolding address_text
four_bytes a b c d ha hb hc hd =
    let n = (((0 * 256 + a) * 256 + b) * 256 + c) * 256 + d in
    let ea : n / 2 ^ 24 ≡ a = omega arith in
    let eb : n / 2 ^ 16 % 256 ≡ b = omega arith in
    let ec : n / 2 ^ 8 % 256 ≡ c = omega arith in
    let ed : n % 256 ≡ d = omega arith in
    (λ j. decimal (ea j) ++ codes "." ++ decimal (eb j) ++ codes "." ++ decimal (ec j) ++ codes "." ++ decimal (ed j)) ∙ simp append_assoc

-- an address has one text
pub address_text_of : (text : List ℕ) (n : ℕ) → SpellsAddress text n → (n < 2 ^ 32) × (address_text n ≡ text)
unfolding SpellsAddress Spells
address_text_of text n h =
    let a = h.0 in
    let p = h.4.2 in
    let b = p.0 in
    let q = p.4.2 in
    let c = q.0 in
    let r = q.4.2 in
    let d = r.0 in
    let value : n ≡ (((0 * 256 + a) * 256 + b) * 256 + c) * 256 + d = r.4.1 in
    let last : r.1 ≡ [] = r.4.0 in
    let whole : text ≡ decimal a ++ (46 ∷ (decimal b ++ (46 ∷ (decimal c ++ (46 ∷ decimal d))))) =
    h.3 ∙ ap (λ (t : List ℕ). decimal a ++ t) (h.4.1 ∙ ap (λ (t : List ℕ). 46 ∷ t) (p.3 ∙ ap (λ (t : List ℕ). decimal b ++ t)
    (p.4.1 ∙ ap (λ (t : List ℕ). 46 ∷ t) (q.3 ∙ ap (λ (t : List ℕ). decimal c ++ t) (q.4.1 ∙ ap (λ (t : List ℕ). 46 ∷ t)
    (r.3 ∙ ap (λ (t : List ℕ). decimal d ++ t) last ∙ append_none (decimal d))))))) in
    (omega (arith, h.2, p.2, q.2, r.2, value), ap address_text value ∙ four_bytes a b c d h.2 p.2 q.2 r.2 ∙ sym whole)

has_text : (text : List ℕ) → ℕ → Bool
has_text text n = bytes_eq (address_text n) text

pub is_text : (xs ys : List ℕ) → xs ≡ ys → bytes_eq xs ys ≡ true
is_text xs ys e = (bytes_eq-Decides xs ys).1 e

pub same_text : (xs ys : List ℕ) → bytes_eq xs ys ≡ true → xs ≡ ys
same_text xs ys e = (bytes_eq-Decides xs ys).0 e

spelled : (text : List ℕ) (m : ℕ) → m < 2 ^ 32 → bytes_eq (address_text m) text ≡ true → SpellsAddress text m
spelled text m less e = subst (λ (t : List ℕ). SpellsAddress t m) (same_text (address_text m) text e) (address_spelled m less)

pub four_read : (text : List ℕ) (n : ℕ) → SpellsAddress text n → ((m : ℕ) → SpellsAddress text m → m ≡ n) → Some n ≡ four_in text
unfolding four_in
four_read text n h only =
    let p = address_text_of text n h in
    sym (found (λ m. bytes_eq (address_text m) text) (2 ^ 32) n p.0 (is_text (address_text n) text p.1) (λ m less passed. only m (spelled text m less passed)))

-- what is read is spelled
pub four_spelled : (text : List ℕ) (n : ℕ) → four_in text ≡ Some n → SpellsAddress text n
unfolding four_in
four_spelled text n e = let p = passes (λ m. bytes_eq (address_text m) text) (2 ^ 32) n e in spelled text n p.0 p.1

pub no_four : (text : List ℕ) → (IsAddressText text → ⊥) → None ≡ four_in text
unfolding four_in
no_four text none = sym (nothing (λ m. bytes_eq (address_text m) text) (2 ^ 32) (λ m less passed. none (m, spelled text m less passed)))

-- ---- MACs

lower_glyph : (c : ℕ) → digit_value c < 16 → digit_glyph false (digit_value c) ≡ to_ascii_lowercase c
lower_glyph c h = grind (arith, nat_tests)

lower_value : (c : ℕ) → digit_value (to_ascii_lowercase c) ≡ digit_value c
lower_value c = grind (arith, nat_tests)

lower_colon : (c : ℕ) → to_ascii_lowercase c ≡ 58 → c ≡ 58
lower_colon c h = grind (arith, nat_tests)

byte_text : (c d : ℕ) → digit_value c < 16 → digit_value d < 16 → pair_text (digit_value c * 16 + digit_value d) ≡ to_ascii_lowercase c ∷ to_ascii_lowercase d ∷ []
byte_text c d hc hd =
    let b = digit_value c * 16 + digit_value d in
    let high : b / 16 ≡ digit_value c = omega arith in
    let low : b % 16 ≡ digit_value d = omega arith in
    ap (λ (k : ℕ). digit_glyph false k ∷ digit_glyph false (b % 16) ∷ []) high
    ∙ ap (λ (k : ℕ). digit_glyph false (digit_value c) ∷ digit_glyph false k ∷ []) low
    ∙ ap (λ (k : ℕ). k ∷ digit_glyph false (digit_value d) ∷ []) (lower_glyph c hc) ∙ ap (λ (k : ℕ). to_ascii_lowercase c ∷ k ∷ []) (lower_glyph d hd)

-- a pair of digits of a byte, and then this
abbrev Pair : (ℕ → List ℕ → Type 0) → ℕ → List ℕ → Type 0
Pair Then start text =
    (c : ℕ) × (rest : List ℕ) × (digit_value c < 16) × (text ≡ c ∷ rest)
    × ((d : ℕ) × (more : List ℕ) × (digit_value d < 16) × (rest ≡ d ∷ more) × Then ((start * 16 + digit_value c) * 16 + digit_value d) more)

-- a colon, and then this
abbrev Colon : (ℕ → List ℕ → Type 0) → ℕ → List ℕ → Type 0
Colon Then start text = (rest : List ℕ) × (text ≡ 58 ∷ rest) × Then start rest

-- the end of the text, and n is the number
abbrev End : ℕ → ℕ → List ℕ → Type 0
End n start text = (text ≡ []) × (n ≡ start)

-- a byte first, and then this
pub record ByteFirst (Then : ℕ → List ℕ → Type 0) (start : ℕ) (text : List ℕ) : Type 0 where
  pub byte : ℕ
  pub rest : List ℕ
  pub small : byte < 256
  pub text_is : map to_ascii_lowercase text ≡ pair_text byte ++ map to_ascii_lowercase rest
  pub behind : Then (start * 256 + byte) rest

byte_first : (Then : ℕ → List ℕ → Type 0) (start : ℕ) (text : List ℕ) → Pair Then start text → ByteFirst Then start text
byte_first Then start text h =
    let c = h.0 in
    let d = h.4.0 in
    let value : (start * 16 + digit_value c) * 16 + digit_value d ≡ start * 256 + (digit_value c * 16 + digit_value d) = omega arith in
    let whole : text ≡ c ∷ d ∷ h.4.1 = h.3 ∙ ap (λ (t : List ℕ). c ∷ t) h.4.3 in
    record {
      byte = digit_value c * 16 + digit_value d;
      rest = h.4.1;
      small = omega (arith, h.2, h.4.2);
      text_is = ap (map to_ascii_lowercase) whole ∙ ap (λ (t : List ℕ). t ++ map to_ascii_lowercase h.4.1) (sym (byte_text c d h.2 h.4.2));
      behind = subst (λ (k : ℕ). Then k h.4.1) value h.4.4;
    }

-- a byte, a colon and then this
colon_next : (Then : ℕ → List ℕ → Type 0) (start : ℕ) (text : List ℕ) → Pair (Colon Then) start text
    → (byte : ℕ) × (rest : List ℕ) × (byte < 256) × (map to_ascii_lowercase text ≡ pair_text byte ++ (58 ∷ map to_ascii_lowercase rest)) × Then (start * 256 + byte) rest
colon_next Then start text h =
    let f = byte_first (Colon Then) start text h in
    (f.byte, f.behind.0, f.small, f.text_is ∙ ap (λ (t : List ℕ). pair_text f.byte ++ map to_ascii_lowercase t) f.behind.1, f.behind.2)

six_bytes : (a b c d e f : ℕ) → a < 256 → b < 256 → c < 256 → d < 256 → e < 256 → f < 256
    → mac_text (((((((0 * 256 + a) * 256 + b) * 256 + c) * 256 + d) * 256 + e) * 256 + f))
    ≡ pair_text a ++ (58 ∷ (pair_text b ++ (58 ∷ (pair_text c ++ (58 ∷ (pair_text d ++ (58 ∷ (pair_text e ++ (58 ∷ pair_text f)))))))))
unfolding mac_text
six_bytes a b c d e f ha hb hc hd he hf =
    let n = (((((0 * 256 + a) * 256 + b) * 256 + c) * 256 + d) * 256 + e) * 256 + f in
    let ea : n / 2 ^ 40 ≡ a = omega arith in
    let eb : n / 2 ^ 32 % 256 ≡ b = omega arith in
    let ec : n / 2 ^ 24 % 256 ≡ c = omega arith in
    let ed : n / 2 ^ 16 % 256 ≡ d = omega arith in
    let ee : n / 2 ^ 8 % 256 ≡ e = omega arith in
    let ef : n % 256 ≡ f = omega arith in
    (λ j. pair_text (ea j) ++ codes ":" ++ pair_text (eb j) ++ codes ":" ++ pair_text (ec j) ++ codes ":" ++ pair_text (ed j) ++ codes ":" ++ pair_text (ee j) ++ codes ":" ++ pair_text (ef j))

-- six bytes with colons between, n the number of them
abbrev Second : ℕ → ℕ → List ℕ → Type 0
Second n = Pair (Colon (Pair (Colon (Pair (Colon (Pair (Colon (Pair (End n)))))))))

abbrev Whole : ℕ → List ℕ → Type 0
Whole n text = Pair (Colon (Second n)) 0 text

pub from_whole : (text : List ℕ) (n : ℕ) → Whole n text → SpellsMac text n
unfolding SpellsMac Spells
from_whole text n h = h

pub to_whole : (text : List ℕ) (n : ℕ) → SpellsMac text n → Whole n text
unfolding SpellsMac Spells
to_whole text n h = h

-- a MAC has one text in lower case
whole_text : (text : List ℕ) (n : ℕ) → Whole n text → (n < 2 ^ 48) × (mac_text n ≡ map to_ascii_lowercase text)
whole_text text n h =
    let a = colon_next (Second n) 0 text h in
    let b = colon_next (Pair (Colon (Pair (Colon (Pair (Colon (Pair (End n)))))))) (0 * 256 + a.0) a.1 a.4 in
    let c = colon_next (Pair (Colon (Pair (Colon (Pair (End n)))))) ((0 * 256 + a.0) * 256 + b.0) b.1 b.4 in
    let d = colon_next (Pair (Colon (Pair (End n)))) (((0 * 256 + a.0) * 256 + b.0) * 256 + c.0) c.1 c.4 in
    let e = colon_next (Pair (End n)) ((((0 * 256 + a.0) * 256 + b.0) * 256 + c.0) * 256 + d.0) d.1 d.4 in
    let f = byte_first (End n) (((((0 * 256 + a.0) * 256 + b.0) * 256 + c.0) * 256 + d.0) * 256 + e.0) e.1 e.4 in
    let value : n ≡ (((((0 * 256 + a.0) * 256 + b.0) * 256 + c.0) * 256 + d.0) * 256 + e.0) * 256 + f.byte = f.behind.1 in
    let last : f.rest ≡ [] = f.behind.0 in
    let end : map to_ascii_lowercase e.1 ≡ pair_text f.byte = f.text_is ∙ ap (λ (t : List ℕ). pair_text f.byte ++ map to_ascii_lowercase t) last ∙ append_none (pair_text f.byte) in
    let whole : map to_ascii_lowercase text ≡ pair_text a.0 ++ (58 ∷ (pair_text b.0 ++ (58 ∷ (pair_text c.0 ++ (58 ∷ (pair_text d.0 ++ (58 ∷ (pair_text e.0 ++ (58 ∷ pair_text f.byte))))))))) =
    a.3 ∙ ap (λ (t : List ℕ). pair_text a.0 ++ (58 ∷ t)) (b.3 ∙ ap (λ (t : List ℕ). pair_text b.0 ++ (58 ∷ t)) (c.3 ∙ ap (λ (t : List ℕ). pair_text c.0 ++ (58 ∷ t))
    (d.3 ∙ ap (λ (t : List ℕ). pair_text d.0 ++ (58 ∷ t)) (e.3 ∙ ap (λ (t : List ℕ). pair_text e.0 ++ (58 ∷ t)) end)))) in
    (omega (arith, a.2, b.2, c.2, d.2, e.2, f.small, value), ap mac_text value ∙ six_bytes a.0 b.0 c.0 d.0 e.0 f.byte a.2 b.2 c.2 d.2 e.2 f.small ∙ sym whole)

-- a text that is a list in lower case, byte by byte
unmapped : (text : List ℕ) (c : ℕ) (cs : List ℕ) → map to_ascii_lowercase text ≡ c ∷ cs
    → (b : ℕ) × (rest : List ℕ) × (text ≡ b ∷ rest) × (to_ascii_lowercase b ≡ c) × (map to_ascii_lowercase rest ≡ cs)
unmapped [] c cs e = absurd cc
unmapped (b ∷ rest) c cs e = (b, rest, refl, cc, cc)

glyph_value : (d : ℕ) → d < 16 → digit_value (digit_glyph false d) ≡ d
glyph_value d h = grind (arith, nat_tests)

-- a digit in lower case is a digit of that value
digit_back : (b d : ℕ) → d < 16 → to_ascii_lowercase b ≡ digit_glyph false d → digit_value b ≡ d
digit_back b d h e = sym (lower_value b) ∙ ap digit_value e ∙ glyph_value d h

byte_back : (Then : ℕ → List ℕ → Type 0) (start byte : ℕ) (text cs : List ℕ) → byte < 256 → map to_ascii_lowercase text ≡ pair_text byte ++ cs
    → ((rest : List ℕ) → map to_ascii_lowercase rest ≡ cs → Then (start * 256 + byte) rest) → Pair Then start text
byte_back Then start byte text cs small e then =
    let c = unmapped text (digit_glyph false (byte / 16)) (digit_glyph false (byte % 16) ∷ cs) e in
    let d = unmapped c.1 (digit_glyph false (byte % 16)) cs c.4 in
    let vc = digit_back c.0 (byte / 16) (omega arith) c.3 in
    let vd = digit_back d.0 (byte % 16) (omega arith) d.3 in
    let value : start * 256 + byte ≡ (start * 16 + digit_value c.0) * 16 + digit_value d.0 = omega arith in
    (c.0, c.1, omega arith, c.2, (d.0, d.1, omega arith, d.2, subst (λ (k : ℕ). Then k d.1) value (then d.1 d.4)))

colon_back : (Then : ℕ → List ℕ → Type 0) (start : ℕ) (text cs : List ℕ) → map to_ascii_lowercase text ≡ 58 ∷ cs
    → ((rest : List ℕ) → map to_ascii_lowercase rest ≡ cs → Then start rest) → Colon Then start text
colon_back Then start text cs e then =
    let c = unmapped text 58 cs e in
    (c.1, c.2 ∙ ap (λ (k : ℕ). k ∷ c.1) (lower_colon c.0 c.3), then c.1 c.4)

colon_byte : (Then : ℕ → List ℕ → Type 0) (start byte : ℕ) (text cs : List ℕ) → byte < 256 → map to_ascii_lowercase text ≡ pair_text byte ++ (58 ∷ cs)
    → ((rest : List ℕ) → map to_ascii_lowercase rest ≡ cs → Then (start * 256 + byte) rest) → Pair (Colon Then) start text
colon_byte Then start byte text cs small e then =
    byte_back (Colon Then) start byte text (58 ∷ cs) small e (λ rest is. colon_back Then (start * 256 + byte) rest cs is then)

end_back : (n start : ℕ) (text : List ℕ) → map to_ascii_lowercase text ≡ [] → n ≡ start → End n start text
end_back n start [] e value = (refl, value)
end_back n start (c ∷ text) e value = absurd cc

-- what has the text of a MAC in lower case spells it
text_whole : (text : List ℕ) (m : ℕ) → m < 2 ^ 48 → mac_text m ≡ map to_ascii_lowercase text → Whole m text
unfolding mac_text
text_whole text m less is =
    let a = m / 2 ^ 40 in
    let b = m / 2 ^ 32 % 256 in
    let c = m / 2 ^ 24 % 256 in
    let d = m / 2 ^ 16 % 256 in
    let e = m / 2 ^ 8 % 256 in
    let f = m % 256 in
    let t5 = pair_text f ++ [] in
    let t4 = pair_text e ++ (58 ∷ t5) in
    let t3 = pair_text d ++ (58 ∷ t4) in
    let t2 = pair_text c ++ (58 ∷ t3) in
    let t1 = pair_text b ++ (58 ∷ t2) in
    let v1 = 0 * 256 + a in
    let v2 = v1 * 256 + b in
    let v3 = v2 * 256 + c in
    let v4 = v3 * 256 + d in
    let v5 = v4 * 256 + e in
    let value : m ≡ v5 * 256 + f = omega arith in
    let p6 = λ (r : List ℕ) (h : map to_ascii_lowercase r ≡ []). end_back m (v5 * 256 + f) r h value in
    let p5 = λ (r : List ℕ) (h : map to_ascii_lowercase r ≡ t5). byte_back (End m) v5 f r [] (omega arith) h p6 in
    let p4 = λ (r : List ℕ) (h : map to_ascii_lowercase r ≡ t4). colon_byte (Pair (End m)) v4 e r t5 (omega arith) h p5 in
    let p3 = λ (r : List ℕ) (h : map to_ascii_lowercase r ≡ t3). colon_byte (Pair (Colon (Pair (End m)))) v3 d r t4 (omega arith) h p4 in
    let p2 = λ (r : List ℕ) (h : map to_ascii_lowercase r ≡ t2). colon_byte (Pair (Colon (Pair (Colon (Pair (End m)))))) v2 c r t3 (omega arith) h p3 in
    let p1 = λ (r : List ℕ) (h : map to_ascii_lowercase r ≡ t1). colon_byte (Pair (Colon (Pair (Colon (Pair (Colon (Pair (End m)))))))) v1 b r t2 (omega arith) h p2 in
    colon_byte (Second m) 0 a text t1 (omega arith) (sym is) p1

mac_spelled_by : (text : List ℕ) (m : ℕ) → m < 2 ^ 48 → bytes_eq (mac_text m) (map to_ascii_lowercase text) ≡ true → SpellsMac text m
mac_spelled_by text m less e = from_whole text m (text_whole text m less (same_text (mac_text m) (map to_ascii_lowercase text) e))

mac_text_of : (text : List ℕ) (n : ℕ) → SpellsMac text n → (n < 2 ^ 48) × (mac_text n ≡ map to_ascii_lowercase text)
mac_text_of text n h = whole_text text n (to_whole text n h)

pub mac_read : (text : List ℕ) (n : ℕ) → SpellsMac text n → ((m : ℕ) → SpellsMac text m → m ≡ n) → Some n ≡ mac_in text
unfolding mac_in
mac_read text n h only =
    let p = mac_text_of text n h in
    sym (found (λ m. bytes_eq (mac_text m) (map to_ascii_lowercase text)) (2 ^ 48) n p.0 (is_text (mac_text n) (map to_ascii_lowercase text) p.1) (λ m less passed. only m (mac_spelled_by text m less passed)))

pub no_mac : (text : List ℕ) → (IsMacText text → ⊥) → None ≡ mac_in text
unfolding mac_in
no_mac text none = sym (nothing (λ m. bytes_eq (mac_text m) (map to_ascii_lowercase text)) (2 ^ 48) (λ m less passed. none (m, mac_spelled_by text m less passed)))

-- ---- numbers

pub number_read : (bound : ℕ) (text : List ℕ) (n : ℕ) → bound < 2 ^ 64 → n < bound → decimal n ≡ text → Some n ≡ number_in bound text
unfolding number_in
number_read bound text n small less e =
    sym (found (λ m. bytes_eq (decimal m) text) bound n less (is_text (decimal n) text e)
    (λ m below passed. decimal_injective m n (omega arith) (omega arith) (same_text (decimal m) text passed ∙ sym e)))

pub no_number : (bound : ℕ) (text : List ℕ) → ((n : ℕ) → n < bound → decimal n ≡ text → ⊥) → None ≡ number_in bound text
unfolding number_in
no_number bound text none = sym (nothing (λ m. bytes_eq (decimal m) text) bound (λ m less passed. none m less (same_text (decimal m) text passed)))

-- the number that a text writes, and that it writes it
pub number_is : (bound : ℕ) (text : List ℕ) (n : ℕ) → number_in bound text ≡ Some n → (n < bound) × (decimal n ≡ text)
unfolding number_in
number_is bound text n e = let p = passes (λ m. bytes_eq (decimal m) text) bound n e in (p.0, same_text (decimal n) text p.1)
