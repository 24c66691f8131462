-- The protocol of a rule, printed and read again: ICMP by its number in version 6 is printed as the name that there means ICMPv6.
use Rattle.std.proofs.Common.{◌≡◌, ℕ, ◌<◌, lit<, ◌==◌, Bool, true, false, List, Option, Some, None, unwrap_or, codes, decimal, refl, sym, ap, subst, ◌∙◌, arith}
use Rattle.std.specs.Prelude.{if◌then◌else◌, ◌&&◌}
use Rattle.std.specs.Str.{bytes_eq}
use Rattle.std.specs.Option.{option_and_then}
use Rattle.std.proofs.lemmas.Bool.Decides.{nat_tests}
use Rattle.serde_json.specs.Data.{Data}
use Rattle.serde_json.specs.Find.{as_str, get}
use Rattle.api_policy.specs.Groups as shown
use Rattle.api_policy.specs.Groups.{ethertype_word, protocol_word, rule_members}
use Rattle.api_policy.specs.Trees.{null_or}
use Rattle.api_types.specs.Lists.{is_some_so}
use Rattle.api_types.specs.Printed.{word}
use Rattle.api_types.specs.declared.form.Given.{Given}
use Rattle.api_types.specs.declared.form.Given.TheVariants.{Is, Null}
use Rattle.api_types.specs.declared.group.Ethertype.{Ethertype}
use Rattle.api_types.specs.declared.group.Ethertype.TheVariants.{Ipv4, Ipv6}
use Rattle.api_types.specs.declared.group.RuleRow.{RuleRow}
use Rattle.api_types.proofs.ListLemmas.{some_equal}
use Rattle.api_types.proofs.NameLemmas.{bytes_same}
use Rattle.json_trees.specs.Printed.{fields, tree_data}
use Rattle.json_values.specs.Grammars.{ethertype_of, protocol_in, protocol_of}
use Rattle.json_values.specs.Values.{said_by, whole_of}
use Rattle.json_laws.proofs.ProtocolBack.{or_is, said_small, word_back}
use Rattle.json_laws.specs.Creations.{AgainOrNull, Holds, is_numbered_icmp}
use Rattle.neutron_json.specs.Forms.{given, given_by, is_or_null, protocol_given, rule_form, version_6_given}

abbrev is_icmp_word : Option Data → Bool
is_icmp_word o = is_some_so (bytes_eq (codes "icmp")) (option_and_then as_str o)

-- the protocol of a rule of version 6, or of another, by its value
abbrev protocol_by : Bool → Option Data → Given ℕ
protocol_by six o = if six && is_icmp_word o then Is 58 else given_by protocol_of o

abbrev printed_protocol : Option ℕ → Option Data
printed_protocol o = Some (tree_data (null_or protocol_word o))

abbrev is_one : Option ℕ → Bool
is_one o = is_some_so (λ n. n == 1) o

icmp_is_one : (n : ℕ) → Some 1 ≡ Some n → (n == 1) ≡ false → ⊥
icmp_is_one n e apart = let is : 1 ≡ n = some_equal 1 n e in grind (arith, nat_tests)

-- no other number is printed as `icmp`
no_icmp : (n : ℕ) → n < 256 → (n == 1) ≡ false → bytes_eq (codes "icmp") (unwrap_or (shown.named_protocol n) (decimal n)) ≡ false
unfolding protocol_word
no_icmp n less apart = by (bytes_eq (codes "icmp") (unwrap_or (shown.named_protocol n) (decimal n))) refl
  where
    by : (b : Bool) → bytes_eq (codes "icmp") (unwrap_or (shown.named_protocol n) (decimal n)) ≡ b → b ≡ false
    by false e = refl
    by true e =
        let same : codes "icmp" ≡ unwrap_or (shown.named_protocol n) (decimal n) = bytes_same (codes "icmp") (unwrap_or (shown.named_protocol n) (decimal n)) e in
        let read : Some 1 ≡ Some n = ap (λ (t : List ℕ). protocol_of (tree_data (word t))) same ∙ word_back n less in
        absurd (icmp_is_one n read apart)

number_again : (six : Bool) (n : ℕ) → n < 256 → (six && (n == 1)) ≡ false → protocol_by six (printed_protocol (Some n)) ≡ Is n
unfolding protocol_word
number_again false n less apart = ap is_or_null (word_back n less)
number_again true n less apart =
    ap (λ b. if b then Is 58 else is_or_null (protocol_of (tree_data (protocol_word n)))) (no_icmp n less apart) ∙ ap is_or_null (word_back n less)

null_again : (six : Bool) → protocol_by six (printed_protocol None) ≡ Null
null_again true = refl
null_again false = refl

no_one : (six : Bool) → (six && (58 == 1)) ≡ false
no_one true = refl
no_one false = refl

module _ (six : Bool) (p : Option ℕ) (plain : (six && is_one p) ≡ false) where
  value_again : (v : Data) (o : Option ℕ) → protocol_of v ≡ o → Holds (is_or_null o) p → AgainOrNull (is_or_null o) (protocol_by six (printed_protocol p))
  value_again v None read h = ap (λ q. protocol_by six (printed_protocol q)) h ∙ null_again six
  value_again v (Some n) read h =
      let less = said_small v n (or_is (said_by protocol_in v) (whole_of 0 255 v) n read) in
      ap (λ q. protocol_by six (printed_protocol q)) h ∙ number_again six n less (sym (ap (λ q. six && is_one q) h) ∙ plain)

  given_again : (o : Option Data) → Holds (given_by protocol_of o) p → AgainOrNull (given_by protocol_of o) (protocol_by six (printed_protocol p))
  given_again None h = tt
  given_again (Some v) h = value_again v (protocol_of v) refl h

  asked_again : (named : Bool) (o : Option Data) → Holds (if named then Is 58 else given_by protocol_of o) p
      → AgainOrNull (if named then Is 58 else given_by protocol_of o) (protocol_by six (printed_protocol p))
  asked_again true o h = ap (λ q. protocol_by six (printed_protocol q)) h ∙ number_again six 58 (lit< tt) (no_one six)
  asked_again false o h = given_again o h

version_again : (e : Ethertype) → is_or_null (ethertype_of (tree_data (word (ethertype_word e)))) ≡ Is e
version_again Ipv4 = refl
version_again Ipv6 = refl

pub protocol_again : (d : Data) (r : RuleRow) → Holds (rule_form d).protocol r.protocol → is_numbered_icmp r ≡ false
    → AgainOrNull (rule_form d).protocol (rule_form (tree_data (fields (rule_members r)))).protocol
protocol_again d r h plain =
    let asked = version_6_given (given ethertype_of d (codes "ethertype")) && is_icmp_word (get (codes "protocol") d) in
    subst (λ (e : Given Ethertype). AgainOrNull (rule_form d).protocol (protocol_given e (tree_data (fields (rule_members r))))) (sym (version_again r.ethertype))
    (asked_again (version_6_given (Is r.ethertype)) r.protocol plain asked (get (codes "protocol") d) h)
