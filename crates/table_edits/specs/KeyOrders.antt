-- Addresses and prefixes are in total orders.
use Rattle.std.proofs.Common.{◌≡◌, ◌∙◌, ◌⊎◌, inl, inr, ℕ, Bool, true, false, refl, sym, ap, subst, arith}
use Rattle.std.specs.Prelude.{◌&&◌, ◌||◌, ◌==◌, nat_lt}
use Rattle.std.proofs.lemmas.Bool.{and_parts, eqb-true}
use Rattle.std.proofs.lemmas.Bool.Decides.{nat_tests}
use Rattle.net_addr.specs.Addresses.{addr_eq}
use Rattle.net_addr.specs.Ordered.{addr_before, same_place}
use Rattle.net_addr.specs.Prefixes.{Prefix}
use Rattle.net_addr.specs.declared.address.Addr.{Addr}
use Rattle.net_addr.specs.declared.address.Addr.TheVariants.{V4, V6}
use Rattle.net_addr.proofs.AddrLemmas.{addr_same}
use Rattle.api_types.specs.Ascending.{prefix_before}
use Rattle.api_types.proofs.ListLemmas.{or_true}
use Rattle.api_types.specs.Consistent.Groups.{prefix_eq}
use Rattle.plane_types.specs.Keyed.{IsTotal}

pub placed : (x y : Addr) → same_place x y ≡ addr_eq x y
placed (V4 m) (V4 n) = refl
placed (V4 m) (V6 n) = refl
placed (V6 m) (V4 n) = refl
placed (V6 m) (V6 n) = refl

same_addr : (a b : Addr) → addr_before a b ≡ false → addr_before b a ≡ false → a ≡ b
same_addr a b h k =
    let there : same_place a b ≡ true = grind (arith, nat_tests) in
    addr_same a b (sym (placed a b) ∙ there)

pub addr_order : IsTotal addr_before
addr_order = record {
  one_way = λ a b h. grind (arith, nat_tests);
  chain = λ a b c h k. grind (arith, nat_tests);
  same = same_addr;
}

same_prefix : (a b : Prefix) → prefix_before a b ≡ false → prefix_before b a ≡ false → a ≡ b
same_prefix a b h k =
    let there : same_place a.base b.base && (a.len == b.len) ≡ true = grind (arith, nat_tests) in
    let is : prefix_eq a b ≡ true = ap (λ c. c && (a.len == b.len)) (sym (placed a.base b.base)) ∙ there in
    let p = and_parts (addr_eq a.base b.base) (a.len == b.len) is in
    ap (λ x. record { base = x; len = a.len }) (addr_same a.base b.base p.0) ∙ ap (λ x. record { base = b.base; len = x }) (eqb-true a.len b.len p.1)

-- by the address, or of one address by the length
before_parts : (a b : Prefix) → prefix_before a b ≡ true → (addr_before a.base b.base ≡ true) ⊎ ((a.base ≡ b.base) × (nat_lt a.len b.len ≡ true))
before_parts a b h = go (addr_before a.base b.base) refl h
  where
    go : (t : Bool) → addr_before a.base b.base ≡ t → t || (same_place a.base b.base && nat_lt a.len b.len) ≡ true → (addr_before a.base b.base ≡ true) ⊎ ((a.base ≡ b.base) × (nat_lt a.len b.len ≡ true))
    go true e h = inl e
    go false e h = let p = and_parts (same_place a.base b.base) (nat_lt a.len b.len) h in inr (addr_same a.base b.base (sym (placed a.base b.base) ∙ p.0), p.1)

itself_placed : (x : Addr) → same_place x x ≡ true
itself_placed x = grind (arith, nat_tests)

shorter_chain : (l m n : ℕ) → nat_lt l m ≡ true → nat_lt m n ≡ true → nat_lt l n ≡ true
shorter_chain l m n h k = grind (arith, nat_tests, h, k)

prefix_chain : (a b c : Prefix) → prefix_before a b ≡ true → prefix_before b c ≡ true → prefix_before a c ≡ true
prefix_chain a b c h k = go (before_parts a b h) (before_parts b c k)
  where
    by_base : addr_before a.base c.base ≡ true → prefix_before a c ≡ true
    by_base e = ap (λ t. t || (same_place a.base c.base && nat_lt a.len c.len)) e

    by_length : a.base ≡ c.base → nat_lt a.len c.len ≡ true → prefix_before a c ≡ true
    by_length e f =
        let same : same_place a.base c.base ≡ true = subst (λ x. same_place a.base x ≡ true) e (itself_placed a.base) in
        (λ j. addr_before a.base c.base || (same j && f j)) ∙ or_true (addr_before a.base c.base)

    go : (addr_before a.base b.base ≡ true) ⊎ ((a.base ≡ b.base) × (nat_lt a.len b.len ≡ true)) → (addr_before b.base c.base ≡ true) ⊎ ((b.base ≡ c.base) × (nat_lt b.len c.len ≡ true)) → prefix_before a c ≡ true
    go (inl e) (inl f) = by_base (addr_order.chain a.base b.base c.base e f)
    go (inl e) (inr f) = by_base (subst (λ x. addr_before a.base x ≡ true) f.0 e)
    go (inr e) (inl f) = by_base (subst (λ x. addr_before x c.base ≡ true) (sym e.0) f)
    go (inr e) (inr f) = by_length (e.0 ∙ f.0) (shorter_chain a.len b.len c.len e.1 f.1)

pub prefix_order : IsTotal prefix_before
prefix_order = record {
  one_way = λ a b h. grind (arith, nat_tests);
  chain = prefix_chain;
  same = same_prefix;
}

pub prefix_itself : (p : Prefix) → prefix_eq p p ≡ true
prefix_itself p =
    let there : same_place p.base p.base && (p.len == p.len) ≡ true = grind (arith, nat_tests) in
    ap (λ c. c && (p.len == p.len)) (sym (placed p.base p.base)) ∙ there
