-- Ids with one printed text are the same.
use Rattle.std.proofs.Common.{◌≡◌, ℕ, zero, suc, [], ◌∷◌, ◌/◌, ◌%◌, ◌^◌, ◌<◌, List, arith, refl, ap, sym, ◌∙◌, inl, Some}
use Rattle.std.specs.Prelude.{length}
use Rattle.std.specs.List.{All, AllByRecursion}
use Rattle.std.specs.Int.{w128, to_be_bytes, from_be_bytes}
use Rattle.uuid.specs.Text.{lower, parsed_hyphenated}
use Rattle.uuid.proofs.RoundTrips.{parses_hyphenated_text}
use Rattle.api_types.proofs.IdentLemmas.{ordinal_back, count_back}
use Rattle.std.proofs.lemmas.Option.{same_Some}
use Rattle.api_types.specs.Ident.{Ident, IsDrawable, ident_text, uuid_bytes, uuid_number}

bytes-long : (n : ℕ) → length (to_be_bytes w128 n) ≡ 16
bytes-long n = refl

mod256 : (n : ℕ) → n % 256 < 256
mod256 n = omega arith

small-all : (bs : List ℕ) → AllByRecursion (λ b. b < 256) bs → All (λ b. b < 256) bs
small-all [] h k d less = absurd (omega (arith, less))
small-all (b ∷ bs) h zero d less = h.0
small-all (b ∷ bs) h (suc k) d less = small-all bs h.1 k d (omega (arith, less))

bytes-small : (n : ℕ) → All (λ b. b < 256) (to_be_bytes w128 n)
bytes-small n = small-all (to_be_bytes w128 n) (mod256 _, (mod256 _, (mod256 _, (mod256 _, (mod256 _, (mod256 _, (mod256 _, (mod256 _, (mod256 _, (mod256 _, (mod256 _, (mod256 _, (mod256 _, (mod256 _, (mod256 _, (mod256 _, tt))))))))))))))))

bytes-text : (i : Ident) → Some (uuid_bytes i) ≡ parsed_hyphenated (ident_text i)
unfolding ident_text uuid_bytes
bytes-text i = parses_hyphenated_text lower (uuid_bytes i) (inl refl) (bytes-long (uuid_number i)) (bytes-small (uuid_number i))

pub one-text : (i j : Ident) → IsDrawable i → IsDrawable j → ident_text i ≡ ident_text j → i ≡ j
one-text i j hi hj e =
    let same : uuid_bytes i ≡ uuid_bytes j = same_Some (uuid_bytes i) (uuid_bytes j) (bytes-text i ∙ ap parsed_hyphenated e ∙ sym (bytes-text j)) in
    let o : i.ordinal ≡ j.ordinal = sym (ordinal_back i hi) ∙ ap (λ v. from_be_bytes w128 v / 2 ^ 64 / 2 ^ 32) same ∙ ordinal_back j hj in
    let c : i.count ≡ j.count = sym (count_back i hi) ∙ ap (λ v. from_be_bytes w128 v % 2 ^ 64 % 2 ^ 62) same ∙ count_back j hj in
    λ k. record { ordinal = o k; count = c k }
