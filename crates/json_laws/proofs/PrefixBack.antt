-- Prefixes, printed with their length and read again.
use Rattle.std.proofs.Common.{◌≡◌, ℕ, ◌-◌, ◌/◌, ◌%◌, ◌^◌, ◌≤◌, true, List, ◌++◌, Option, Some, None, codes, decimal, refl, sym, ap, ◌∙◌, arith, subst, append_assoc}
use Rattle.std.proofs.Math.Nat.{div-mul-le_self, mul-mod_left}
use Rattle.std.proofs.lemmas.Bool.Decides.{nat_tests}
use Rattle.serde_json.specs.Find.{as_str}
use Rattle.net_addr.specs.Addresses.{IsAddr, width}
use Rattle.net_addr.specs.Ordered.{whole_prefix}
use Rattle.net_addr.specs.Prefixes.{Written, Prefix, is_exact, prefix_of}
use Rattle.net_addr.specs.Spelling.{addr_text, prefix_text}
use Rattle.net_addr.specs.declared.address.Addr.{Addr}
use Rattle.net_addr.specs.declared.address.Addr.TheVariants.{V4, V6}
use Rattle.api_policy.specs.Trees.{prefix_word}
use Rattle.json_values.specs.Texts.{address_in, written, written_in, prefix_by, prefix_in}
use Rattle.json_values.specs.Items.{prefix_said}
use Rattle.json_values.proofs.AddrLemmas.{slash_apart}
use Rattle.json_laws.specs.ReadBack.{IsReadBack}
use Rattle.json_laws.proofs.TextsBack.{exact_base, mapped_is, read_fits, said_is, written_back, written_fits}

-- a prefix whose other bits are zero
prefix_fixed : (a : Addr) (k : ℕ) → is_exact (written a k) ≡ true → prefix_of (written a k) ≡ record { base = a; len = k }
unfolding prefix_of
prefix_fixed a k e = λ j. record { base = exact_base (written a k) e j; len = k }

prefix_back : (a : Addr) (k : ℕ) → IsAddr a → k ≤ width a → is_exact (written a k) ≡ true → prefix_in (prefix_text (record { base = a; len = k })) ≡ Some (record { base = a; len = k })
unfolding prefix_text
prefix_back a k h l e =
    let text = addr_text a ++ codes "/" ++ decimal k in
    let none : address_in text ≡ None = ap address_in (append_assoc (addr_text a) (codes "/") (decimal k)) ∙ sym (slash_apart (addr_text a) (decimal k)) in
    (λ j. prefix_by (none j) (written_back (written a k) h l j)) ∙ ap Some (prefix_fixed a k e)

whole_exact : (a : Addr) → is_exact (written a (width a)) ≡ true
unfolding is_exact
whole_exact (V4 n) = let none : n % 2 ^ (32 - 32) ≡ 0 = omega arith in grind (arith, nat_tests)
whole_exact (V6 n) = let none : n % 2 ^ (128 - 128) ≡ 0 = omega arith in grind (arith, nat_tests)

cleared_exact : (a : Addr) (k : ℕ) → is_exact (written (prefix_of (written a k)).base k) ≡ true
unfolding is_exact prefix_of
cleared_exact (V4 n) k = let none = mul-mod_left (n / 2 ^ (32 - k)) (2 ^ (32 - k)) in grind (arith, nat_tests)
cleared_exact (V6 n) k = let none = mul-mod_left (n / 2 ^ (128 - k)) (2 ^ (128 - k)) in grind (arith, nat_tests)

cleared_fits : (a : Addr) (k : ℕ) → IsAddr a → k ≤ width a → IsAddr (prefix_of (written a k)).base × (k ≤ width (prefix_of (written a k)).base)
unfolding prefix_of
cleared_fits (V4 n) k h l = (omega (arith, h, div-mul-le_self n (2 ^ (32 - k))), l)
cleared_fits (V6 n) k h l = (omega (arith, h, div-mul-le_self n (2 ^ (128 - k))), l)

cleared : (w : Written) → IsAddr w.addr → w.len ≤ width w.addr → prefix_in (prefix_text (prefix_of w)) ≡ Some (prefix_of w)
unfolding prefix_of
cleared w h l =
    let f = cleared_fits w.addr w.len h l in
    prefix_back (prefix_of w).base w.len f.0 f.1 (cleared_exact w.addr w.len)

read_by : (t : List ℕ) (a : Option Addr) (w : Option Written) (p : Prefix) → address_in t ≡ a → written_in t ≡ w → prefix_by a w ≡ Some p → prefix_in (prefix_text p) ≡ Some p
read_by t (Some a) w p ia iw e =
    let one : whole_prefix a ≡ p = cc in
    subst (λ (q : Prefix). prefix_in (prefix_text q) ≡ Some q) one (prefix_back a (width a) (read_fits t a ia) (omega arith) (whole_exact a))
read_by t None w p ia iw e =
    let m = mapped_is prefix_of w p e in
    let f = written_fits t m.0 (iw ∙ m.1) in
    subst (λ (q : Prefix). prefix_in (prefix_text q) ≡ Some q) m.2 (cleared m.0 f.0 f.1)

pub remotes : IsReadBack prefix_said prefix_word
remotes d p e = let s = said_is prefix_in (as_str d) p e in read_by s.0 (address_in s.0) (written_in s.0) p refl refl s.2
