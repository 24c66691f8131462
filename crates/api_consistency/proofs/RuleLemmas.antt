-- Rules that say the same have one key.
use Rattle.std.proofs.Common.{◌≡◌, ◌∙◌, ℕ, List, [], ◌∷◌, Bool, true, false, Option, Some, None, map, refl, ap, sym, slice_get}
use Rattle.std.specs.Prelude.{◌==◌, ◌&&◌, not}
use Rattle.std.specs.List.{list_any, IsDistinct}
use Rattle.std.specs.Option.{option_eq}
use Rattle.std.specs.Str.{bytes_eq}
use Rattle.std.proofs.lemmas.Bool.Decides.{Decides-eqb}
use Rattle.net_addr.specs.Addresses.{addr_eq}
use Rattle.net_addr.specs.Prefixes.{Prefix}
use Rattle.net_addr.proofs.AddrLemmas.{addr_same}
use Rattle.api_types.specs.Table.{ident_eq}
use Rattle.api_types.specs.Lists.{Each, Pass}
use Rattle.api_types.specs.Consistent.Groups.{is_direction, is_ethertype, prefix_eq, same_match, same_rule, rules_clash}
use Rattle.api_types.specs.declared.group.RuleRow.{RuleRow}
use Rattle.api_types.specs.declared.group.Direction.{Direction}
use Rattle.api_types.specs.declared.group.Direction.TheVariants.{Ingress, Egress}
use Rattle.api_types.specs.declared.group.Ethertype.{Ethertype}
use Rattle.api_types.specs.declared.group.Ethertype.TheVariants.{Ipv4, Ipv6}
use Rattle.api_types.proofs.ListLemmas.{and_both, any-none, false_true, some_equal}
use Rattle.api_types.proofs.NameLemmas.{by_test, ident_itself, ident_same, not_true}
use Rattle.api_consistency.specs.Stretches.{meet}
use Rattle.api_consistency.specs.Numbers.{id_number, mixed, single}
use Rattle.api_consistency.specs.Keys.{of_rule, some_number, group_number, length_number, base_number, kinds_number}
use Rattle.api_consistency.proofs.StretchLemmas.{meet-flips}
use Rattle.api_consistency.proofs.KeyLemmas.{met}
use Rattle.api_consistency.proofs.PlaceLemmas.{apart_at, map_at}

option_same : {X : Type 0} (equal : X → X → Bool) → ((x y : X) → equal x y ≡ true → x ≡ y) → (o p : Option X) → option_eq equal o p ≡ true → o ≡ p
option_same equal same None None h = refl
option_same equal same None (Some y) h = cc
option_same equal same (Some x) None h = cc
option_same equal same (Some x) (Some y) h = ap Some (same x y h)

direction_same : (a b : Direction) → is_direction a b ≡ true → a ≡ b
direction_same Ingress Ingress h = refl
direction_same Egress Egress h = refl
direction_same Ingress Egress h = cc
direction_same Egress Ingress h = cc

ethertype_same : (a b : Ethertype) → is_ethertype a b ≡ true → a ≡ b
ethertype_same Ipv4 Ipv4 h = refl
ethertype_same Ipv6 Ipv6 h = refl
ethertype_same Ipv4 Ipv6 h = cc
ethertype_same Ipv6 Ipv4 h = cc

number_same : (a b : ℕ) → (a == b) ≡ true → a ≡ b
number_same a b h = (Decides-eqb a b).0 h

prefix_same : (p q : Prefix) → prefix_eq p q ≡ true → p ≡ q
prefix_same p q h =
    let both = and_both (addr_eq p.base q.base) (p.len == q.len) h in
    let b = addr_same p.base q.base both.0 in
    let l = number_same p.len q.len both.1 in
    λ j. record { base = b j; len = l j }

rules_meet : (r s : RuleRow) → same_rule r s ≡ true → meet (of_rule r) (of_rule s) ≡ true
rules_meet r s h =
    let a = and_both (ident_eq r.group s.group) _ h in
    let b = and_both (bytes_eq r.project s.project) _ a.1 in
    let c = and_both (is_direction r.direction s.direction) _ b.1 in
    let d = and_both (is_ethertype r.ethertype s.ethertype) (same_match r s) c.1 in
    let e = and_both (option_eq (λ x y. x == y) r.protocol s.protocol && option_eq (λ x y. x == y) r.low s.low
    && option_eq (λ x y. x == y) r.high s.high && option_eq prefix_eq r.remote_prefix s.remote_prefix) (option_eq ident_eq r.remote_group s.remote_group) d.1 in
    let f = and_both (option_eq (λ x y. x == y) r.protocol s.protocol && option_eq (λ x y. x == y) r.low s.low
    && option_eq (λ x y. x == y) r.high s.high) (option_eq prefix_eq r.remote_prefix s.remote_prefix) e.0 in
    let g = and_both (option_eq (λ x y. x == y) r.protocol s.protocol && option_eq (λ x y. x == y) r.low s.low) (option_eq (λ x y. x == y) r.high s.high) f.0 in
    let k = and_both (option_eq (λ x y. x == y) r.protocol s.protocol) (option_eq (λ x y. x == y) r.low s.low) g.0 in
    let group = ident_same r.group s.group a.0 in
    let direction = direction_same r.direction s.direction c.0 in
    let ethertype = ethertype_same r.ethertype s.ethertype d.0 in
    let protocol = option_same (λ x y. x == y) number_same r.protocol s.protocol k.0 in
    let low = option_same (λ x y. x == y) number_same r.low s.low k.1 in
    let high = option_same (λ x y. x == y) number_same r.high s.high g.1 in
    let prefix = option_same prefix_eq prefix_same r.remote_prefix s.remote_prefix f.1 in
    let remote = option_same ident_eq ident_same r.remote_group s.remote_group e.1 in
    met (id_number s.group) (mixed 0 (kinds_number s.direction s.ethertype ∷ some_number s.protocol ∷ some_number s.low ∷ some_number s.high ∷ length_number s.remote_prefix ∷ base_number s.remote_prefix ∷ group_number s.remote_group ∷ []))
    (of_rule r) (of_rule s)
    (λ j. single (id_number (group j)) (mixed 0 (kinds_number (direction j) (ethertype j) ∷ some_number (protocol j) ∷ some_number (low j) ∷ some_number (high j) ∷ length_number (prefix j) ∷ base_number (prefix j) ∷ group_number (remote j) ∷ [])))
    refl

pub rules_apart : (rules : List RuleRow) → IsDistinct meet (map of_rule rules) → Pass (λ r. not (list_any (rules_clash r) rules)) rules
rules_apart rules h k r at = ap not (any-none (rules_clash r) rules each)
  where
    alike : (l : ℕ) (s : RuleRow) → slice_get rules l ≡ Some s → rules_clash r s ≡ true → true ≡ false
    alike l s at_s is =
        let both = and_both (not (ident_eq r.id s.id)) (same_rule r s) is in
        let none : meet (of_rule r) (of_rule s) ≡ false = apart_at meet meet-flips (map of_rule rules) h k l (of_rule r) (of_rule s) (map_at of_rule rules k r at) (map_at of_rule rules l s at_s)
        (λ e. false_true _ (sym (not_true (ident_eq r.id s.id) both.0)
        ∙ (ap (λ (z : RuleRow). ident_eq r.id z.id) (sym (some_equal r s (sym at ∙ (ap (slice_get rules) e ∙ at_s)))) ∙ ident_itself r.id))) in
        sym (rules_meet r s both.1) ∙ none

    each : Each (λ s. rules_clash r s ≡ false) rules
    each l s at_s = by_test (rules_clash r s) (rules_clash r s ≡ false) (λ is. false_true _ (sym (alike l s at_s is))) (λ fails. fails)
