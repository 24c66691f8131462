-- Ids that a program can hold print alike only where they are the same.
use Rattle.std.proofs.Common.{◌≡◌, ℕ, zero, suc, [], ◌∷◌, ◌+◌, ◌*◌, ◌%◌, ◌^◌, ◌<◌, List, arith, refl, ap, sym, ◌∙◌, inl}
use Rattle.std.specs.Prelude.{Some}
use Rattle.std.specs.List.{All, AllByRecursion}
use Rattle.std.specs.Int.{w128, to_be_bytes, from_be_bytes}
use Rattle.std.proofs.lemmas.Option.{same_Some}
use Rattle.uuid.specs.Text.{lower, parsed_hyphenated}
use Rattle.uuid.proofs.OrderLemmas.{from_be_bytes-to_be_bytes_16}
use Rattle.uuid.proofs.RoundTrips.{parses_hyphenated_text}
use Rattle.api_types.specs.Ident.{Ident, IsDrawable, ident_text, uuid_bytes, uuid_number}
use Rattle.api_shown.specs.Keys.{FitsId}

mod256 : (n : ℕ) → n % 256 < 256
mod256 n = omega arith

small-all : (bs : List ℕ) → AllByRecursion (λ b. b < 256) bs → All (λ b. b < 256) bs
small-all [] h k d less = absurd (omega (arith, less))
small-all (b ∷ bs) h zero d less = h.0
small-all (b ∷ bs) h (suc k) d less = small-all bs h.1 k d (omega (arith, less))

bytes-small : (n : ℕ) → All (λ b. b < 256) (to_be_bytes w128 n)
bytes-small n = small-all (to_be_bytes w128 n) (mod256 _, (mod256 _, (mod256 _, (mod256 _, (mod256 _, (mod256 _, (mod256 _, (mod256 _, (mod256 _, (mod256 _, (mod256 _, (mod256 _, (mod256 _, (mod256 _, (mod256 _, (mod256 _, tt))))))))))))))))

-- the printed text gives the bytes back
text-bytes : (i : Ident) → Some (uuid_bytes i) ≡ parsed_hyphenated (ident_text i)
unfolding ident_text uuid_bytes
text-bytes i = parses_hyphenated_text lower (uuid_bytes i) (inl refl) refl (bytes-small (uuid_number i))

number-fits : (i : Ident) → FitsId i → uuid_number i < 2 ^ 128
unfolding uuid_number
number-fits i h = omega (arith, h.0, h.1)

-- the bytes give the number back
number-back : (i : Ident) → FitsId i → from_be_bytes w128 (uuid_bytes i) ≡ uuid_number i
unfolding uuid_bytes
number-back i h = from_be_bytes-to_be_bytes_16 (uuid_number i) (number-fits i h)

one-ordinal : (o c p d : ℕ) → c < 2 ^ 64 → d < 2 ^ 64 → (o * 2 ^ 32 + 8 * 2 ^ 12) * 2 ^ 64 + (2 * 2 ^ 62 + c) ≡ (p * 2 ^ 32 + 8 * 2 ^ 12) * 2 ^ 64 + (2 * 2 ^ 62 + d) → o ≡ p
one-ordinal o c p d hc hd e = omega (arith, hc, hd, e)

one-count : (o c p d : ℕ) → c < 2 ^ 64 → d < 2 ^ 64 → (o * 2 ^ 32 + 8 * 2 ^ 12) * 2 ^ 64 + (2 * 2 ^ 62 + c) ≡ (p * 2 ^ 32 + 8 * 2 ^ 12) * 2 ^ 64 + (2 * 2 ^ 62 + d) → c ≡ d
one-count o c p d hc hd e = omega (arith, hc, hd, e)

-- the number gives the ordinal and the count back
one-number : (i j : Ident) → FitsId i → FitsId j → uuid_number i ≡ uuid_number j → i ≡ j
unfolding uuid_number
one-number i j hi hj e =
    let o : i.ordinal ≡ j.ordinal = one-ordinal i.ordinal i.count j.ordinal j.count hi.1 hj.1 e in
    let c : i.count ≡ j.count = one-count i.ordinal i.count j.ordinal j.count hi.1 hj.1 e in
    λ k. record { ordinal = o k; count = c k }

-- an id that a program can hold is the one that prints so
pub printed_once : (i j : Ident) → FitsId i → FitsId j → ident_text i ≡ ident_text j → i ≡ j
printed_once i j hi hj e =
    let same : uuid_bytes i ≡ uuid_bytes j = same_Some (uuid_bytes i) (uuid_bytes j) (text-bytes i ∙ ap parsed_hyphenated e ∙ sym (text-bytes j)) in
    one-number i j hi hj (sym (number-back i hi) ∙ ap (from_be_bytes w128) same ∙ number-back j hj)

-- a drawn id is one that a program can hold
pub drawn_fits : (i : Ident) → IsDrawable i → FitsId i
drawn_fits i h = (h.last_ordinal, omega (arith, h.last_count))
