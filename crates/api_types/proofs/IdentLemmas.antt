-- The numbers of an id, read back from its sixteen bytes.
use Rattle.std.proofs.Common.{◌≡◌, ℕ, ◌+◌, ◌*◌, ◌/◌, ◌%◌, ◌^◌, ◌<◌, List, arith, refl, ap, sym, ◌∙◌}
use Rattle.std.specs.Prelude.{if◌then◌else◌, length, None, Some, Bool, true, false, ◌&&◌, ◌==◌}
use Rattle.std.proofs.Common.{◌⊎◌, inl, inr}
use Rattle.std.specs.Int.{w128, from_be_bytes}
use Rattle.uuid.proofs.OrderLemmas.{from_be_bytes-to_be_bytes_16}
use Rattle.uuid.specs.Text.{parsed, parsed_hyphenated, parsed_simple, digits_of, has_hyphens, hyphenated_text, lower}
use Rattle.std.proofs.lemmas.Bool.Decides.{nat_tests}
use Rattle.uuid.proofs.TextLemmas.{by_index_length}
use Rattle.api_types.specs.Ident.{Ident, IsDrawable, Spells, uuid_number, uuid_bytes}

uuid_number-fits : (i : Ident) → IsDrawable i → uuid_number i < 2 ^ 128
unfolding uuid_number
uuid_number-fits i h = omega (arith, h.last_ordinal, h.last_count)

high_half : (o c : ℕ) → c < 2 ^ 62 → ((o * 2 ^ 32 + 8 * 2 ^ 12) * 2 ^ 64 + (2 * 2 ^ 62 + c)) / 2 ^ 64 / 2 ^ 32 ≡ o
high_half o c h = omega arith

low_half : (o c : ℕ) → c < 2 ^ 62 → ((o * 2 ^ 32 + 8 * 2 ^ 12) * 2 ^ 64 + (2 * 2 ^ 62 + c)) % 2 ^ 64 % 2 ^ 62 ≡ c
low_half o c h = omega arith

pub ordinal_back : (i : Ident) → IsDrawable i → from_be_bytes w128 (uuid_bytes i) / 2 ^ 64 / 2 ^ 32 ≡ i.ordinal
unfolding uuid_bytes uuid_number
ordinal_back i h = rw (from_be_bytes-to_be_bytes_16 (uuid_number i) (uuid_number-fits i h)) (high_half i.ordinal i.count h.last_count)

pub count_back : (i : Ident) → IsDrawable i → from_be_bytes w128 (uuid_bytes i) % 2 ^ 64 % 2 ^ 62 ≡ i.count
unfolding uuid_bytes uuid_number
count_back i h = rw (from_be_bytes-to_be_bytes_16 (uuid_number i) (uuid_number-fits i h)) (low_half i.ordinal i.count h.last_count)

-- what the halves of an id's bytes give is the id
pub halves_give : (i : Ident) (u : List ℕ) (high low : ℕ) → IsDrawable i → u ≡ uuid_bytes i → high ≡ from_be_bytes w128 u / 2 ^ 64 → low ≡ from_be_bytes w128 u % 2 ^ 64
    → uuid_bytes (record { ordinal = high / 2 ^ 32; count = low % 2 ^ 62 }) ≡ u
halves_give i u high low h e p q =
    let o : high / 2 ^ 32 ≡ i.ordinal = ap (λ n. n / 2 ^ 32) (p ∙ ap (λ v. from_be_bytes w128 v / 2 ^ 64) e) ∙ ordinal_back i h in
    let k : low % 2 ^ 62 ≡ i.count = ap (λ n. n % 2 ^ 62) (q ∙ ap (λ v. from_be_bytes w128 v % 2 ^ 64) e) ∙ count_back i h in
    (λ j. uuid_bytes (record { ordinal = o j; count = k j })) ∙ sym e

-- a text of 36 characters is read in the hyphenated form alone
pub parsed_long : (s : List ℕ) → length s ≡ 36 → parsed s ≡ parsed_hyphenated s
parsed_long s e = rw e refl

-- a text in the hyphenated form has 36 characters
pub hyphenated_long : (s u : List ℕ) → parsed_hyphenated s ≡ Some u → length s ≡ 36
hyphenated_long s u e = by (length s == 36) refl e
  where
    by : (b : Bool) → (length s == 36) ≡ b → (if b && has_hyphens s then parsed_simple (digits_of s) else None) ≡ Some u → length s ≡ 36
    by true is h = grind (arith, nat_tests)
    by false is h = cc

-- the printed form spells its id
pub printed_spells : (i : Ident) (t : List ℕ) → IsDrawable i → Some (uuid_bytes i) ≡ parsed t → t ≡ hyphenated_text lower (uuid_bytes i) → Spells t i
printed_spells i t h e is = record {
  drawable = h;
  form = sym (parsed_long t (ap length is ∙ by_index_length 36 _)) ∙ sym e;
}

-- an id's halves give no ordinal 0 and no count 0
pub no_zero : (i : Ident) (u : List ℕ) (high low : ℕ) → IsDrawable i → u ≡ uuid_bytes i → high ≡ from_be_bytes w128 u / 2 ^ 64 → low ≡ from_be_bytes w128 u % 2 ^ 64
    → (high / 2 ^ 32 ≡ 0) ⊎ (low % 2 ^ 62 ≡ 0) → ⊥
no_zero i u high low h e p q (inl zero_ordinal) =
    let o : high / 2 ^ 32 ≡ i.ordinal = ap (λ n. n / 2 ^ 32) (p ∙ ap (λ v. from_be_bytes w128 v / 2 ^ 64) e) ∙ ordinal_back i h in
    omega (arith, h.first_ordinal, o, zero_ordinal)
no_zero i u high low h e p q (inr zero_count) =
    let k : low % 2 ^ 62 ≡ i.count = ap (λ n. n % 2 ^ 62) (q ∙ ap (λ v. from_be_bytes w128 v % 2 ^ 64) e) ∙ count_back i h in
    omega (arith, h.first_count, k, zero_count)
