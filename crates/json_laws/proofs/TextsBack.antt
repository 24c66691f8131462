-- Texts, ids, addresses and numbers, printed and read again.
use Rattle.std.proofs.Common.{◌≡◌, ℕ, zero, suc, ◌-◌, ◌*◌, ◌/◌, ◌%◌, ◌^◌, ◌<◌, ◌≤◌, Bool, true, false, List, [], ◌∷◌, ◌++◌, map, Option, Some, None, option_map, codes, decimal, refl, sym, ap, ◌∙◌, arith, inl}
use Rattle.std.specs.Prelude.{if◌then◌else◌, nat_le, ◌&&◌}
use Rattle.std.specs.Option.{option_and_then}
use Rattle.std.specs.Char.{to_ascii_lowercase}
use Rattle.std.specs.Int.{w128, to_be_bytes}
use Rattle.std.specs.List.{All}
use Rattle.std.specs.Str.{bytes_eq}
use Rattle.std.proofs.Math.Nat.{div-mul-le_self, mod-eq-sub-div-mul}
use Rattle.std.proofs.lemmas.Bool.Decides.{nat_tests}
use Rattle.std.proofs.lemmas.Slice.Eq.{bytes_eq-Decides}
use Rattle.uuid.specs.Text.{lower}
use Rattle.uuid.proofs.RoundTrips.{parses_hyphenated_text}
use Rattle.serde_json.specs.Data.{Data}
use Rattle.serde_json.specs.Data as json
use Rattle.serde_json.specs.Find.{as_number, as_str, as_u64}
use Rattle.net_addr.proofs.Print6Spelled as printed
use Rattle.net_addr.specs.Macs.{is_unicast}
use Rattle.net_addr.specs.Prefixes.{Written, Prefix, prefix_of, is_exact}
use Rattle.net_addr.specs.Addresses.{IsAddr, with_number, width}
use Rattle.net_addr.specs.Addresses as net
use Rattle.net_addr.specs.Spelling.{SpellsCidr, addr_text, address_text, mac_text, prefix_text}
use Rattle.net_addr.specs.declared.address.Addr.{Addr}
use Rattle.net_addr.specs.declared.address.Addr.TheVariants.{V4, V6}
use Rattle.api_types.specs.Ident.{Ident, IsDrawable, Spells, ident_text, uuid_bytes, uuid_number}
use Rattle.api_types.specs.Printed.{number, word}
use Rattle.api_policy.specs.Trees.{address_word, four_word, id_word, mac_word, prefix_word}
use Rattle.json_values.specs.Numbers.{number_with, four_in, mac_in}
use Rattle.json_values.specs.Texts.{address_in, written_in, id_in}
use Rattle.json_values.specs.Values.{kept, said_by, whole_of}
use Rattle.json_values.specs.Items.{id_of, four_of, address_of, mac_of, card_of, exact_of}
use Rattle.json_values.specs.Grammars.{short_text, group_name, device_owner, project_name, target_name, is_short, is_free_name, is_free_owner, is_project_name, is_target, segment_number, port_number, subnet_prefix, is_subnet_prefix}
use Rattle.json_values.proofs.AddrLemmas.{addr_given, addr_spelled, cidr_given, cidr_spelled}
use Rattle.json_values.proofs.SixBounds.{addr_fits}
use Rattle.json_values.proofs.SoughtLemmas.{passes}
use Rattle.json_values.proofs.IdLemmas.{id_read, id_spelled}
use Rattle.json_laws.specs.ReadBack.{IsReadBack}

-- ---- what passed a test

kept_by : {T : Type 0} (test : T → Bool) (y x : T) (b : Bool) → test y ≡ b → (if b then Some y else None) ≡ Some x → (y ≡ x) × (test x ≡ true)
kept_by test y x true is e = let same : y ≡ x = cc in (same, ap test (sym same) ∙ is)
kept_by test y x false is e = absurd cc

-- what is kept is a value that passes
pub kept_is : {T : Type 0} (test : T → Bool) (o : Option T) (x : T) → kept test o ≡ Some x → (o ≡ Some x) × (test x ≡ true)
kept_is test None x e = absurd cc
kept_is test (Some y) x e = let p = kept_by test y x (test y) refl e in (ap Some p.0, p.1)

kept_if : {T : Type 0} (b : Bool) (x : T) → b ≡ true → (if b then Some x else None) ≡ Some x
kept_if true x e = refl
kept_if false x e = absurd cc

-- what passes is kept
pub kept_some : {T : Type 0} (test : T → Bool) (x : T) → test x ≡ true → kept test (Some x) ≡ Some x
kept_some test x e = kept_if (test x) x e

pub said_is : {A B : Type 0} (f : A → Option B) (o : Option A) (y : B) → option_and_then f o ≡ Some y → (x : A) × (o ≡ Some x) × (f x ≡ Some y)
said_is f None y e = absurd cc
said_is f (Some x) y e = (x, refl, e)

pub mapped_is : {A B : Type 0} (f : A → B) (o : Option A) (y : B) → option_map f o ≡ Some y → (x : A) × (o ≡ Some x) × (f x ≡ y)
mapped_is f None y e = absurd cc
mapped_is f (Some x) y e = (x, refl, cc)

same_text : (xs ys : List ℕ) → bytes_eq xs ys ≡ true → xs ≡ ys
same_text xs ys e = (bytes_eq-Decides xs ys).0 e

-- ---- texts

pub texts : IsReadBack short_text word
texts d t e = kept_some is_short t (kept_is is_short (as_str d) t e).1

twice : (test : List ℕ → Bool) (d : Data) (t : List ℕ) → kept test (short_text d) ≡ Some t → kept test (kept is_short (Some t)) ≡ Some t
twice test d t e =
    let p = kept_is test (short_text d) t e in
    let q = kept_is is_short (as_str d) t p.0 in
    ap (kept test) (kept_some is_short t q.1) ∙ kept_some test t p.1

pub group_names : IsReadBack group_name word
group_names d t e = twice is_free_name d t e

pub owners : IsReadBack device_owner word
owners d t e = twice is_free_owner d t e

pub projects : IsReadBack project_name word
projects d t e = kept_some is_project_name t (kept_is is_project_name (as_str d) t e).1

pub targets : IsReadBack target_name word
targets d t e = kept_some is_target t (kept_is is_target (as_str d) t e).1

-- ---- numbers

in_range : (low high : ℕ) (d : Data) (n : ℕ) → whole_of low high d ≡ Some n → whole_of low high (json.number (json.unsigned n)) ≡ Some n
in_range low high d n e =
    let test = λ (m : ℕ). nat_le low m && nat_le m high in
    let p = kept_is test (option_and_then as_u64 (as_number d)) n e in
    kept_some test n p.1

pub segments : IsReadBack segment_number number
segments d n e = in_range 1 16777215 d n e

pub ports : IsReadBack port_number number
ports d n e = in_range 0 65535 d n e

-- ---- addresses

four_same : (t : List ℕ) (n : ℕ) → four_in t ≡ Some n → address_text n ≡ t
unfolding four_in
four_same t n e = same_text (address_text n) t (passes (λ m. bytes_eq (address_text m) t) (2 ^ 32) n e).1

pub fours : IsReadBack four_of four_word
fours d n e = let s = said_is four_in (as_str d) n e in ap four_in (four_same s.0 n s.2) ∙ s.2

-- the printed text of an address is of that address
pub address_back : (a : Addr) → IsAddr a → address_in (addr_text a) ≡ Some a
address_back a h = sym (addr_given (addr_text a) a (printed.addr_spelled a h))

-- what is read fits its version
pub read_fits : (t : List ℕ) (a : Addr) → address_in t ≡ Some a → IsAddr a
read_fits t a e = addr_fits t a (addr_spelled t a e)

pub addresses : IsReadBack address_of address_word
addresses d a e = let s = said_is address_in (as_str d) a e in address_back a (read_fits s.0 a s.2)

lower_again : (t : List ℕ) → map to_ascii_lowercase (map to_ascii_lowercase t) ≡ map to_ascii_lowercase t
lower_again [] = refl
lower_again (c ∷ t) =
    let once : to_ascii_lowercase (to_ascii_lowercase c) ≡ to_ascii_lowercase c = grind (arith, nat_tests) in
    (λ j. once j ∷ lower_again t j)

mac_same : (t : List ℕ) (n : ℕ) → mac_in t ≡ Some n → mac_in (mac_text n) ≡ Some n
unfolding mac_in
mac_same t n e =
    let same : mac_text n ≡ map to_ascii_lowercase t = same_text (mac_text n) (map to_ascii_lowercase t) (passes (λ m. bytes_eq (mac_text m) (map to_ascii_lowercase t)) (2 ^ 48) n e).1 in
    let low : map to_ascii_lowercase (mac_text n) ≡ map to_ascii_lowercase t = ap (map to_ascii_lowercase) same ∙ lower_again t in
    ap (λ (u : List ℕ). number_with (λ m. bytes_eq (mac_text m) u) (2 ^ 48)) low ∙ e

pub macs : IsReadBack card_of mac_word
macs d n e =
    let p = kept_is is_unicast (mac_of d) n e in
    let s = said_is mac_in (as_str d) n p.0 in
    ap (kept is_unicast) (mac_same s.0 n s.2) ∙ kept_some is_unicast n p.1

-- ---- prefixes

-- an address and a length that are read fit
pub written_fits : (t : List ℕ) (w : Written) → written_in t ≡ Some w → IsAddr w.addr × (w.len ≤ width w.addr)
unfolding SpellsCidr
written_fits t w e = let s = cidr_spelled t w e in (addr_fits s.0 w.addr s.1, s.2)

pub written_back : (w : Written) → IsAddr w.addr → w.len ≤ width w.addr → written_in (addr_text w.addr ++ codes "/" ++ decimal w.len) ≡ Some w
unfolding SpellsCidr
written_back w h l = sym (cidr_given (addr_text w.addr ++ codes "/" ++ decimal w.len) w (addr_text w.addr, printed.addr_spelled w.addr h, l, refl))

renumbered_same : (a : Addr) (n : ℕ) → n ≡ net.number a → with_number a n ≡ a
renumbered_same (V4 m) n e = ap V4 e
renumbered_same (V6 m) n e = ap V6 e

pub exact_base : (w : Written) → is_exact w ≡ true → (prefix_of w).base ≡ w.addr
unfolding is_exact prefix_of
exact_base w e =
    let zero : net.number w.addr % 2 ^ (width w.addr - w.len) ≡ 0 = grind (arith, nat_tests) in
    let k = 2 ^ (width w.addr - w.len) in
    let rest = mod-eq-sub-div-mul (net.number w.addr) k in
    let within = div-mul-le_self (net.number w.addr) k in
    renumbered_same w.addr (net.number w.addr / k * k) (omega (arith, zero, rest, within))

exact_len : (w : Written) → (prefix_of w).len ≡ w.len
unfolding prefix_of
exact_len w = refl

exact_text : (w : Written) → is_exact w ≡ true → prefix_text (prefix_of w) ≡ addr_text w.addr ++ codes "/" ++ decimal w.len
unfolding prefix_text
exact_text w e = ap (λ (b : Addr). addr_text b ++ codes "/" ++ decimal (prefix_of w).len) (exact_base w e) ∙ ap (λ (l : ℕ). addr_text w.addr ++ codes "/" ++ decimal l) (exact_len w)

pub exact_again : (d : Data) (p : Prefix) → exact_of d ≡ Some p → exact_of (json.string (prefix_text p)) ≡ Some p
exact_again d p e =
    let m = mapped_is prefix_of (kept is_exact (said_by written_in d)) p e in
    let k = kept_is is_exact (said_by written_in d) m.0 m.1 in
    let s = said_is written_in (as_str d) m.0 k.0 in
    let fits = written_fits s.0 m.0 s.2 in
    let text : prefix_text p ≡ addr_text m.0.addr ++ codes "/" ++ decimal m.0.len = ap prefix_text (sym m.2) ∙ exact_text m.0 k.1 in
    ap (λ (t : List ℕ). option_map prefix_of (kept is_exact (written_in t))) text
    ∙ ap (λ (o : Option Written). option_map prefix_of (kept is_exact o)) (written_back m.0 fits.0 fits.1) ∙ ap (option_map prefix_of) (kept_some is_exact m.0 k.1) ∙ ap Some m.2

pub prefixes : IsReadBack subnet_prefix prefix_word
prefixes d p e =
    let k = kept_is is_subnet_prefix (exact_of d) p e in
    ap (kept is_subnet_prefix) (exact_again d p k.0) ∙ kept_some is_subnet_prefix p k.1

-- ---- ids

mod256 : (n : ℕ) → n % 256 < 256
mod256 n = omega arith

-- each of these, by recursion
abbrev AllOf : List ℕ → Type 0
AllOf [] = Unit {0}
AllOf (b ∷ bs) = (b < 256) × AllOf bs

small_all : (bs : List ℕ) → AllOf bs → All (λ b. b < 256) bs
small_all [] h k d less = absurd (omega (arith, less))
small_all (b ∷ bs) h zero d less = h.0
small_all (b ∷ bs) h (suc k) d less = small_all bs h.1 k d (omega (arith, less))

small_bytes : (n : ℕ) → All (λ b. b < 256) (to_be_bytes w128 n)
small_bytes n = small_all (to_be_bytes w128 n) (mod256 _, (mod256 _, (mod256 _, (mod256 _, (mod256 _, (mod256 _, (mod256 _, (mod256 _, (mod256 _, (mod256 _, (mod256 _, (mod256 _, (mod256 _, (mod256 _, (mod256 _, (mod256 _, tt))))))))))))))))

ident_spelled : (i : Ident) → IsDrawable i → Spells (ident_text i) i
unfolding ident_text uuid_bytes
ident_spelled i h = record {
  drawable = h;
  form = sym (parses_hyphenated_text lower (uuid_bytes i) (inl refl) refl (small_bytes (uuid_number i)));
}

pub ids : IsReadBack id_of id_word
ids d i e =
    let s = said_is id_in (as_str d) i e in
    sym (id_read (ident_text i) i (ident_spelled i (id_spelled s.0 i s.2).drawable))
