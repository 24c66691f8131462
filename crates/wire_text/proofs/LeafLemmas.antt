-- Texts, numbers, ids and addresses, written and read again.
use Rattle.std.proofs.Common.{◌≡◌, ℕ, zero, suc, ◌+◌, ◌-◌, ◌*◌, ◌/◌, ◌%◌, ◌^◌, ◌<◌, List, [], ◌∷◌, Option, None, Some, refl, sym, ap, subst, ◌∙◌, arith, inl}
use Rattle.std.specs.Int.{w128, from_be_bytes, to_be_bytes}
use Rattle.std.specs.List.{All}
use Rattle.std.proofs.Math.Nat.{div-mul-le_self, mod-eq-sub-div-mul}
use Rattle.uuid.specs.Text.{lower, parsed, parsed_hyphenated}
use Rattle.uuid.proofs.OrderLemmas.{from_be_bytes-to_be_bytes_16}
use Rattle.uuid.proofs.RoundTrips.{parses_hyphenated_text}
use Rattle.serde_json.specs.Data as json
use Rattle.net_addr.specs.Addresses.{IsAddr, number, width, with_number}
use Rattle.net_addr.specs.Prefixes.{IsPrefix, Prefix, Written, prefix_of}
use Rattle.net_addr.specs.Spelling.{IsAddrText, IsAddressText, IsCidrText, IsMacText, SpellsAddr, SpellsAddress, SpellsCidr, SpellsMac, addr_text, address_text, mac_text, prefix_text}
use Rattle.net_addr.specs.declared.address.Addr.{Addr}
use Rattle.net_addr.specs.declared.address.Addr.TheVariants.{V4, V6}
use Rattle.net_addr.proofs.Print6Spelled.{addr_spelled}
use Rattle.net_addr.proofs.PrintLemmas.{mac_spelled}
use Rattle.api_types.specs.Ident.{Ident, ident_text, uuid_bytes, uuid_number}
use Rattle.api_types.proofs.IdentLemmas.{hyphenated_long, parsed_long}
use Rattle.api_types.proofs.ListLemmas.{none_some, some_equal}
use Rattle.wire_text.specs.Typed.{IsIdent}

-- ---- values

pub text_same : (s t : List ℕ) → json.string s ≡ json.string t → s ≡ t
text_same s t e = cc

pub number_same : (m n : ℕ) → json.number (json.unsigned m) ≡ json.number (json.unsigned n) → m ≡ n
number_same m n e = cc

-- ---- variants by their names

module _ {T : Type 0} (name_of : T → List ℕ) (named : List ℕ → Option T) (back : (x : T) → named (name_of x) ≡ Some x) where
  pub variant_found : (x k : T) (name : List ℕ) → Some k ≡ named name → json.string name ≡ json.string (name_of x) → k ≡ x
  variant_found x k name e same = some_equal k x (e ∙ ap named (text_same name (name_of x) same) ∙ back x)

  pub variant_there : (x : T) (name : List ℕ) → None ≡ named name → json.string name ≡ json.string (name_of x) → ⊥
  variant_there x name e same = none_some x ⊥ (e ∙ ap named (text_same name (name_of x) same) ∙ back x)

-- ---- addresses

pub address_found : (text : List ℕ) (a b : Addr) → IsAddr a → text ≡ addr_text a → ((n : Addr) → SpellsAddr text n → n ≡ b) → b ≡ a
address_found text a b fits is only = sym (only a (subst (λ t. SpellsAddr t a) (sym is) (addr_spelled a fits)))

pub address_there : (text : List ℕ) (a : Addr) → IsAddr a → text ≡ addr_text a → IsAddrText text
address_there text a fits is = (a, subst (λ t. SpellsAddr t a) (sym is) (addr_spelled a fits))

pub four_found : (text : List ℕ) (a b : ℕ) → a < 2 ^ 32 → text ≡ address_text a → ((n : ℕ) → SpellsAddress text n → n ≡ b) → b ≡ a
four_found text a b fits is only = sym (only a (subst (λ t. SpellsAddress t a) (sym is) (addr_spelled (V4 a) fits)))

pub four_there : (text : List ℕ) (a : ℕ) → a < 2 ^ 32 → text ≡ address_text a → IsAddressText text
four_there text a fits is = (a, subst (λ t. SpellsAddress t a) (sym is) (addr_spelled (V4 a) fits))

pub mac_found : (text : List ℕ) (a b : ℕ) → a < 2 ^ 48 → text ≡ mac_text a → ((n : ℕ) → SpellsMac text n → n ≡ b) → b ≡ a
mac_found text a b fits is only = sym (only a (subst (λ t. SpellsMac t a) (sym is) (mac_spelled a fits)))

pub mac_there : (text : List ℕ) (a : ℕ) → a < 2 ^ 48 → text ≡ mac_text a → IsMacText text
mac_there text a fits is = (a, subst (λ t. SpellsMac t a) (sym is) (mac_spelled a fits))

-- ---- ids

ident_fits : (i : Ident) → IsIdent i → uuid_number i < 2 ^ 128
unfolding uuid_number
ident_fits i h = omega (arith, h.ordinal, h.count)

high_half : (o c : ℕ) → c < 2 ^ 62 → ((o * 2 ^ 32 + 8 * 2 ^ 12) * 2 ^ 64 + (2 * 2 ^ 62 + c)) / 2 ^ 64 / 2 ^ 32 ≡ o
high_half o c h = omega arith

low_half : (o c : ℕ) → c < 2 ^ 62 → ((o * 2 ^ 32 + 8 * 2 ^ 12) * 2 ^ 64 + (2 * 2 ^ 62 + c)) % 2 ^ 64 % 2 ^ 62 ≡ c
low_half o c h = omega arith

ordinal_at : (i : Ident) → IsIdent i → from_be_bytes w128 (uuid_bytes i) / 2 ^ 64 / 2 ^ 32 ≡ i.ordinal
unfolding uuid_bytes uuid_number
ordinal_at i h = rw (from_be_bytes-to_be_bytes_16 (uuid_number i) (ident_fits i h)) (high_half i.ordinal i.count h.count)

count_at : (i : Ident) → IsIdent i → from_be_bytes w128 (uuid_bytes i) % 2 ^ 64 % 2 ^ 62 ≡ i.count
unfolding uuid_bytes uuid_number
count_at i h = rw (from_be_bytes-to_be_bytes_16 (uuid_number i) (ident_fits i h)) (low_half i.ordinal i.count h.count)

mod256 : (n : ℕ) → n % 256 < 256
mod256 n = omega arith

abbrev AllOf : List ℕ → Type 0
AllOf [] = Unit {0}
AllOf (b ∷ bs) = (b < 256) × AllOf bs

small_all : (bs : List ℕ) → AllOf bs → All (λ b. b < 256) bs
small_all [] h k d less = absurd (omega (arith, less))
small_all (b ∷ bs) h zero d less = h.0
small_all (b ∷ bs) h (suc k) d less = small_all bs h.1 k d (omega (arith, less))

small_bytes : (n : ℕ) → All (λ b. b < 256) (to_be_bytes w128 n)
small_bytes n = small_all (to_be_bytes w128 n) (mod256 _, (mod256 _, (mod256 _, (mod256 _, (mod256 _, (mod256 _, (mod256 _, (mod256 _, (mod256 _, (mod256 _, (mod256 _, (mod256 _, (mod256 _, (mod256 _, (mod256 _, (mod256 _, tt))))))))))))))))

-- the text of an id is parsed as its sixteen bytes
pub id_parsed : (i : Ident) (text : List ℕ) → text ≡ ident_text i → parsed text ≡ Some (uuid_bytes i)
unfolding ident_text uuid_bytes
id_parsed i text is =
    let form : parsed_hyphenated (ident_text i) ≡ Some (uuid_bytes i) = sym (parses_hyphenated_text lower (uuid_bytes i) (inl refl) refl (small_bytes (uuid_number i))) in
    ap parsed is ∙ parsed_long (ident_text i) (hyphenated_long (ident_text i) (uuid_bytes i) form) ∙ form

-- and the halves of these give it
pub id_found : (i : Ident) (text u : List ℕ) (high low : ℕ) → IsIdent i → text ≡ ident_text i → Some u ≡ parsed text → high ≡ from_be_bytes w128 u / 2 ^ 64 → low ≡ from_be_bytes w128 u % 2 ^ 64
    → record { ordinal = high / 2 ^ 32; count = low % 2 ^ 62 } ≡ i
id_found i text u high low fits is parsed_is p q =
    let same : u ≡ uuid_bytes i = some_equal u (uuid_bytes i) (parsed_is ∙ id_parsed i text is) in
    let o : high / 2 ^ 32 ≡ i.ordinal = ap (λ n. n / 2 ^ 32) (p ∙ ap (λ v. from_be_bytes w128 v / 2 ^ 64) same) ∙ ordinal_at i fits in
    let k : low % 2 ^ 62 ≡ i.count = ap (λ n. n % 2 ^ 62) (q ∙ ap (λ v. from_be_bytes w128 v % 2 ^ 64) same) ∙ count_at i fits in
    λ j. record { ordinal = o j; count = k j }

-- ---- prefixes

renumbered_same : (a : Addr) (n : ℕ) → n ≡ number a → with_number a n ≡ a
renumbered_same (V4 m) n e = ap V4 e
renumbered_same (V6 m) n e = ap V6 e

prefix_same : (p : Prefix) → IsPrefix p → prefix_of (record { addr = p.base; len = p.len }) ≡ p
unfolding prefix_of
prefix_same p h =
    let k = 2 ^ (width p.base - p.len) in
    let rest = mod-eq-sub-div-mul (number p.base) k in
    let within = div-mul-le_self (number p.base) k in
    let zero : number p.base % k ≡ 0 = h.1 in
    let same : with_number p.base (number p.base / k * k) ≡ p.base = renumbered_same p.base (number p.base / k * k) (omega (arith, zero, rest, within)) in
    λ j. record { base = same j; len = p.len }

cidr_of : (text : List ℕ) (p : Prefix) → IsAddr p.base → IsPrefix p → text ≡ prefix_text p → SpellsCidr text (record { addr = p.base; len = p.len })
unfolding SpellsCidr prefix_text
cidr_of text p fits h is = (addr_text p.base, addr_spelled p.base fits, h.0, is)

pub prefix_found : (text : List ℕ) (p q : Prefix) (w : Written) → IsAddr p.base × IsPrefix p → text ≡ prefix_text p → ((v : Written) → SpellsCidr text v → v ≡ w) → q ≡ prefix_of w → q ≡ p
prefix_found text p q w fits is only prefix =
    prefix ∙ ap prefix_of (sym (only (record { addr = p.base; len = p.len }) (cidr_of text p fits.0 fits.1 is))) ∙ prefix_same p fits.1

pub prefix_there : (text : List ℕ) (p : Prefix) → IsAddr p.base × IsPrefix p → text ≡ prefix_text p → IsCidrText text
prefix_there text p fits is = (record { addr = p.base; len = p.len }, cidr_of text p fits.0 fits.1 is)
