-- One of the listed prefixes contains an address exactly if it is a member.
use Rattle.std.proofs.Common.{◌≡◌, ◌∙◌, List, [], ◌∷◌, Bool, true, false, true≢false, refl, sym, ap, arith, map, ◌++◌}
use Rattle.std.specs.Prelude.{◌||◌, ◌&&◌, flat_map, if◌then◌else◌}
use Rattle.std.specs.List.{list_any}
use Rattle.std.proofs.lemmas.Bool.Decides.{nat_tests}
use Rattle.std.proofs.lemmas.List.Folds.{list_any-append}
use Rattle.net_addr.specs.Addresses.{addr_eq}
use Rattle.net_addr.specs.Ordered.{whole_prefix}
use Rattle.net_addr.specs.Prefixes.{Prefix, contains}
use Rattle.net_addr.specs.declared.address.Addr.{Addr}
use Rattle.net_addr.specs.declared.address.Addr.TheVariants.{V4, V6}
use Rattle.api_types.specs.Ascending.{prefix_before}
use Rattle.api_types.specs.Consistent.Groups.{prefix_eq}
use Rattle.api_types.specs.Holders.{holds}
use Rattle.api_types.specs.Ident.{Ident}
use Rattle.api_types.specs.Members.{gives_member, in_pairs, is_member, members, names_group, once, prefixes_of}
use Rattle.api_types.specs.RowLists.{RowLists}
use Rattle.api_types.specs.declared.port.Fixed.{Fixed}
use Rattle.api_types.specs.declared.port.Pair.{Pair}
use Rattle.api_types.specs.declared.port.PortRow.{PortRow}
use Rattle.api_secgroup.proofs.MemberLemmas.{any-ascending, prefix_same}

-- ---- each once

twice : (a c : Bool) → (a || (a || c)) ≡ (a || c)
twice true c = refl
twice false c = refl

turned : (a b c : Bool) → (a || (b || c)) ≡ (b || (a || c))
turned true true c = refl
turned true false c = refl
turned false b c = refl

-- what stands among others tells nothing more
among : (T : Prefix → Bool) (p : Prefix) (ps : List Prefix) → list_any (prefix_eq p) ps ≡ true → (T p || list_any T ps) ≡ list_any T ps
among T p [] e = absurd (true≢false (sym e))
among T p (q ∷ qs) e = go (prefix_eq p q) refl (among T p qs)
  where
    go : (b : Bool) → prefix_eq p q ≡ b → (list_any (prefix_eq p) qs ≡ true → (T p || list_any T qs) ≡ list_any T qs) → (T p || (T q || list_any T qs)) ≡ (T q || list_any T qs)
    go true f rest = ap (λ v. T v || (T q || list_any T qs)) (prefix_same p q f) ∙ twice (T q) (list_any T qs)
    go false f rest = turned (T p) (T q) (list_any T qs) ∙ ap (λ c. T q || c) (rest (sym (ap (λ b. b || list_any (prefix_eq p) qs) f) ∙ e))

any-once : (T : Prefix → Bool) (ps : List Prefix) → list_any T (once ps) ≡ list_any T ps
unfolding once
any-once T [] = refl
any-once T (p ∷ ps) = go (list_any (prefix_eq p) ps) refl (any-once T ps)
  where
    go : (b : Bool) → list_any (prefix_eq p) ps ≡ b → list_any T (once ps) ≡ list_any T ps → list_any T (if b then once ps else p ∷ once ps) ≡ (T p || list_any T ps)
    go true e rest = rest ∙ sym (among T p ps e)
    go false e rest = ap (λ b. T p || b) rest

-- ---- what a port gives

any-map : {A : Type 0} (T : Prefix → Bool) (f : A → Prefix) (xs : List A) → list_any T (map f xs) ≡ list_any (λ a. T (f a)) xs
any-map T f [] = refl
any-map T f (x ∷ xs) = ap (λ b. T (f x) || b) (any-map T f xs)

-- the prefix of one address contains that address alone
contains_one : (a x : Addr) → contains (whole_prefix a) x ≡ addr_eq a x
unfolding contains
contains_one (V4 m) (V4 n) = grind (arith, nat_tests)
contains_one (V4 m) (V6 n) = refl
contains_one (V6 m) (V4 n) = refl
contains_one (V6 m) (V6 n) = grind (arith, nat_tests)

fixed_given : (x : Addr) (fixed : List Fixed) → list_any (λ q. contains q x) (map (λ (f : Fixed). whole_prefix f.address) fixed) ≡ list_any (λ (f : Fixed). addr_eq f.address x) fixed
fixed_given x [] = refl
fixed_given x (f ∷ fs) = ap (λ b. b || list_any (λ q. contains q x) (map (λ (f : Fixed). whole_prefix f.address) fs)) (contains_one f.address x) ∙ ap (λ b. addr_eq f.address x || b) (fixed_given x fs)

given : (g : Ident) (x : Addr) (p : PortRow) → list_any (λ q. contains q x) (prefixes_of g p) ≡ gives_member g x p
given g x p = go (names_group g p.groups)
  where
    fixed : List Prefix
    fixed = map (λ (f : Fixed). whole_prefix f.address) p.fixed

    pairs : List Prefix
    pairs = map (λ (y : Pair). y.prefix) p.pairs

    go : (b : Bool) → list_any (λ q. contains q x) (if b then fixed ++ pairs else []) ≡ (b && (holds p x || in_pairs p.pairs x))
    go true =
        list_any-append (λ q. contains q x) fixed pairs
        ∙ ap (λ b. b || list_any (λ q. contains q x) pairs) (fixed_given x p.fixed)
        ∙ ap (λ b. holds p x || b) (any-map (λ q. contains q x) (λ (y : Pair). y.prefix) p.pairs)
    go false = refl

all_given : (g : Ident) (x : Addr) (ports : List PortRow) → list_any (λ q. contains q x) (flat_map (prefixes_of g) ports) ≡ list_any (gives_member g x) ports
all_given g x [] = refl
all_given g x (p ∷ ps) =
    list_any-append (λ q. contains q x) (prefixes_of g p) (flat_map (prefixes_of g) ps)
    ∙ ap (λ b. b || list_any (λ q. contains q x) (flat_map (prefixes_of g) ps)) (given g x p)
    ∙ ap (λ b. gives_member g x p || b) (all_given g x ps)

pub listed_hold : (rows : RowLists) (g : Ident) (x : Addr) → list_any (λ q. contains q x) (members rows g) ≡ is_member rows g x
unfolding members is_member
listed_hold rows g x =
    any-ascending prefix_before (λ q. contains q x) (once (flat_map (prefixes_of g) rows.ports))
    ∙ any-once (λ q. contains q x) (flat_map (prefixes_of g) rows.ports)
    ∙ all_given g x rows.ports
