-- Protocols, printed by name or number and read again.
use Rattle.std.proofs.Common.{◌≡◌, ℕ, ◌<◌, ◌≤◌, ◌==◌, Bool, true, false, List, [], ◌∷◌, length, Option, Some, None, unwrap_or, codes, decimal, nat_eq, refl, sym, ap, ◌∙◌, arith, ◌⊎◌, inl, inr}
use Rattle.std.specs.Prelude.{if◌then◌else◌, nat_le, ◌&&◌}
use Rattle.std.specs.Str.{bytes_eq}
use Rattle.std.specs.Str.Parse.{AllDigits}
use Rattle.std.proofs.lemmas.Bool.Decides.{nat_tests}
use Rattle.std.proofs.lemmas.Fmt.{decimal_is_IsNumeral, decimal_nonempty}
use Rattle.std.proofs.lemmas.Str.Parse.{digit_from_value}
use Rattle.serde_json.specs.Data.{Data}
use Rattle.serde_json.specs.Find.{as_number, as_str, as_u64}
use Rattle.std.specs.Option.{option_and_then}
use Rattle.api_policy.specs.Groups as shown
use Rattle.api_policy.specs.Groups.{protocol_word}
use Rattle.json_trees.specs.Printed.{tree_data}
use Rattle.json_values.specs.Numbers.{number_in}
use Rattle.json_values.specs.Six.{or_else}
use Rattle.json_values.specs.Values.{said_by, whole_of}
use Rattle.json_values.specs.Grammars.{named_protocol, protocol_in, protocol_of}
use Rattle.json_values.proofs.SoughtLemmas.{passes}
use Rattle.json_values.proofs.AddressLemmas.{number_read}
use Rattle.json_laws.specs.ReadBack.{IsReadBack}
use Rattle.json_laws.proofs.TextsBack.{kept_is, said_is}

one_name : (n k : ℕ) (w t : List ℕ) (rest : Option (List ℕ)) (b : Bool) → (n == k) ≡ b → named_protocol w ≡ Some k → (rest ≡ Some t → named_protocol t ≡ Some n) → (if b then Some w else rest) ≡ Some t → named_protocol t ≡ Some n
one_name n k w t rest true is reads next e =
    let same : n ≡ k = grind (arith, nat_tests) in
    let word : w ≡ t = cc in
    ap named_protocol (sym word) ∙ reads ∙ ap Some (sym same)
one_name n k w t rest false is reads next e = next e

-- a protocol's name is read as its number
name_read : (n : ℕ) (t : List ℕ) → shown.named_protocol n ≡ Some t → named_protocol t ≡ Some n
name_read n t =
    one_name n 1 (codes "icmp") t _ (n == 1) refl refl (one_name n 2 (codes "igmp") t _ (n == 2) refl refl (one_name n 6 (codes "tcp") t _ (n == 6) refl refl
    (one_name n 17 (codes "udp") t _ (n == 17) refl refl (one_name n 47 (codes "gre") t _ (n == 47) refl refl (one_name n 50 (codes "esp") t _ (n == 50) refl refl
    (one_name n 51 (codes "ah") t _ (n == 51) refl refl (one_name n 58 (codes "ipv6-icmp") t _ (n == 58) refl refl (one_name n 89 (codes "ospf") t _ (n == 89) refl refl (one_name n 112 (codes "vrrp") t _ (n == 112) refl refl
    (one_name n 132 (codes "sctp") t _ (n == 132) refl refl (λ e. absurd cc)))))))))))

-- a text that begins with a digit is no name
digit_first : (c : ℕ) (rest : List ℕ) → c < 58 → named_protocol (c ∷ rest) ≡ None
digit_first c rest h =
    let i : nat_eq c 105 ≡ false = grind (arith, nat_tests) in
    let t : nat_eq c 116 ≡ false = grind (arith, nat_tests) in
    let u : nat_eq c 117 ≡ false = grind (arith, nat_tests) in
    let g : nat_eq c 103 ≡ false = grind (arith, nat_tests) in
    let e : nat_eq c 101 ≡ false = grind (arith, nat_tests) in
    let a : nat_eq c 97 ≡ false = grind (arith, nat_tests) in
    let o : nat_eq c 111 ≡ false = grind (arith, nat_tests) in
    let v : nat_eq c 118 ≡ false = grind (arith, nat_tests) in
    let s : nat_eq c 115 ≡ false = grind (arith, nat_tests) in
    simp (i, t, u, g, e, a, o, v, s)

digits_first : (bs : List ℕ) → 0 < length bs → AllDigits 10 bs → named_protocol bs ≡ None
digits_first [] h k = absurd (omega arith)
digits_first (c ∷ rest) h k = let r = digit_from_value c k.0 in digit_first c rest (omega (arith, r))

number_no_name : (n : ℕ) → n < 256 → named_protocol (decimal n) ≡ None
number_no_name n less = digits_first (decimal n) (decimal_nonempty n (omega arith)) (decimal_is_IsNumeral n (omega arith)).0.1

-- each number of a name is below 256
name_small : (n k : ℕ) (rest : Option ℕ) (b : Bool) → k < 256 → (rest ≡ Some n → n < 256) → (if b then Some k else rest) ≡ Some n → n < 256
name_small n k rest true less next e = let same : k ≡ n = cc in omega arith
name_small n k rest false less next e = next e

named_small : (t : List ℕ) (n : ℕ) → named_protocol t ≡ Some n → n < 256
named_small t n =
    name_small n 1 _ (bytes_eq t (codes "icmp")) (omega arith) (name_small n 2 _ (bytes_eq t (codes "igmp")) (omega arith) (name_small n 6 _ (bytes_eq t (codes "tcp")) (omega arith)
    (name_small n 17 _ (bytes_eq t (codes "udp")) (omega arith) (name_small n 47 _ (bytes_eq t (codes "gre")) (omega arith) (name_small n 50 _ (bytes_eq t (codes "esp")) (omega arith)
    (name_small n 51 _ (bytes_eq t (codes "ah")) (omega arith) (name_small n 58 _ (bytes_eq t (codes "ipv6-icmp")) (omega arith) (name_small n 58 _ (bytes_eq t (codes "icmpv6")) (omega arith) (name_small n 89 _ (bytes_eq t (codes "ospf")) (omega arith) (name_small n 112 _ (bytes_eq t (codes "vrrp")) (omega arith)
    (name_small n 132 _ (bytes_eq t (codes "sctp")) (omega arith) (λ e. absurd cc))))))))))))

word_by : (n : ℕ) (o : Option (List ℕ)) → n < 256 → shown.named_protocol n ≡ o → or_else (protocol_in (unwrap_or o (decimal n))) None ≡ Some n
word_by n None less is =
    let named = number_no_name n less in
    let read = number_read 256 (decimal n) n (omega arith) less refl in
    rw (named, ← read) refl
word_by n (Some t) less is = rw (name_read n t is) refl

pub word_back : (n : ℕ) → n < 256 → protocol_of (tree_data (protocol_word n)) ≡ Some n
unfolding protocol_word
word_back n less = word_by n (shown.named_protocol n) less refl

number_small : (t : List ℕ) (n : ℕ) → number_in 256 t ≡ Some n → n < 256
unfolding number_in
number_small t n e = (passes (λ m. bytes_eq (decimal m) t) 256 n e).0

pub or_is : {T : Type 0} (o p : Option T) (x : T) → or_else o p ≡ Some x → (o ≡ Some x) ⊎ (p ≡ Some x)
or_is None p x e = inr e
or_is (Some y) p x e = inl e

text_small : (t : List ℕ) (n : ℕ) → (named_protocol t ≡ Some n) ⊎ (number_in 256 t ≡ Some n) → n < 256
text_small t n (inl e) = named_small t n e
text_small t n (inr e) = number_small t n e

in_range : (low high n : ℕ) → (nat_le low n && nat_le n high) ≡ true → n ≤ high
in_range low high n e = grind (arith, nat_tests)

pub said_small : (d : Data) (n : ℕ) → (said_by protocol_in d ≡ Some n) ⊎ (whole_of 0 255 d ≡ Some n) → n < 256
said_small d n (inl e) = let s = said_is protocol_in (as_str d) n e in text_small s.0 n (or_is (named_protocol s.0) (number_in 256 s.0) n s.2)
said_small d n (inr e) =
    let test = λ (m : ℕ). nat_le 0 m && nat_le m 255 in
    let p = kept_is test (option_and_then as_u64 (as_number d)) n e in
    let less = in_range 0 255 n p.1 in
    omega (arith, less)

pub protocols : IsReadBack protocol_of protocol_word
protocols d n e = word_back n (said_small d n (or_is (said_by protocol_in d) (whole_of 0 255 d) n e))
