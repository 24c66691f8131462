-- A sorted list of prefixes, each once.
use Rattle.std.proofs.Common.{◌≡◌, ◌∙◌, List, [], ◌∷◌, Bool, true, false, true≢false, refl, sym, ap, arith}
use Rattle.std.specs.Prelude.{◌||◌, ◌&&◌, ◌==◌, if◌then◌else◌}
use Rattle.std.specs.Cmp.{IsStrictWeakOrder}
use Rattle.std.specs.List.{list_any}
use Rattle.std.proofs.lemmas.Bool.{and_parts, eqb-true}
use Rattle.std.proofs.lemmas.Bool.Decides.{nat_tests}
use Rattle.net_addr.specs.Addresses.{addr_eq}
use Rattle.net_addr.specs.Ordered.{same_place}
use Rattle.net_addr.specs.Prefixes.{Prefix}
use Rattle.net_addr.specs.declared.address.Addr.{Addr}
use Rattle.net_addr.specs.declared.address.Addr.TheVariants.{V4, V6}
use Rattle.net_addr.proofs.AddrLemmas.{addr_same}
use Rattle.api_types.specs.Consistent.Groups.{prefix_eq}
use Rattle.api_types.specs.Ascending.{ascending, put_in, prefix_before}
use Rattle.api_types.specs.Members.{once}
use Rattle.api_types.proofs.SortLemmas.{Least, Rises, ascending_rises, least_more}
use Rattle.api_secgroup.specs.Repeats.{begins_with, without_repeats}

any-put_in : {X : Type 0} (before : X → X → Bool) (T : X → Bool) (x : X) (ys : List X) → list_any T (put_in before x ys) ≡ (T x || list_any T ys)
unfolding put_in
any-put_in before T x [] = refl
any-put_in {X} before T x (y ∷ ys) = go (before y x) (any-put_in before T x ys)
  where
    turn : (a b c : Bool) → (a || (b || c)) ≡ (b || (a || c))
    turn true true c = refl
    turn true false c = refl
    turn false b c = refl

    go : (b : Bool) → list_any T (put_in before x ys) ≡ (T x || list_any T ys) → list_any T (if b then y ∷ put_in before x ys else (x ∷ y ∷ ys)) ≡ (T x || (T y || list_any T ys))
    go true rest = ap (λ b. T y || b) rest ∙ turn (T y) (T x) (list_any T ys)
    go false rest = refl

pub any-ascending : {X : Type 0} (before : X → X → Bool) (T : X → Bool) (xs : List X) → list_any T (ascending before xs) ≡ list_any T xs
unfolding ascending
any-ascending before T [] = refl
any-ascending before T (x ∷ xs) = any-put_in before T x (ascending before xs) ∙ ap (λ b. T x || b) (any-ascending before T xs)

pub prefix_same : (a b : Prefix) → prefix_eq a b ≡ true → a ≡ b
prefix_same a b h =
    let p = and_parts (addr_eq a.base b.base) (a.len == b.len) h in
    ap (λ x. record { base = x; len = a.len }) (addr_same a.base b.base p.0) ∙ ap (λ x. record { base = b.base; len = x }) (eqb-true a.len b.len p.1)

prefix_order : IsStrictWeakOrder prefix_before
prefix_order = record { one_way = λ x y h. grind (arith, nat_tests); chain = λ x y z h k. grind (arith, nat_tests) }

placed : (x y : Addr) → same_place x y ≡ addr_eq x y
placed (V4 m) (V4 n) = refl
placed (V4 m) (V6 n) = refl
placed (V6 m) (V4 n) = refl
placed (V6 m) (V6 n) = refl

-- neither comes before the other
prefix_meets : (a b : Prefix) → prefix_before a b ≡ false → prefix_before b a ≡ false → prefix_eq a b ≡ true
prefix_meets a b h k =
    let there : same_place a.base b.base && (a.len == b.len) ≡ true = grind (arith, nat_tests) in
    ap (λ c. c && (a.len == b.len)) (sym (placed a.base b.base)) ∙ there

-- what comes before another isn't it
apart : (x y : Prefix) → prefix_before x y ≡ true → prefix_eq x y ≡ false
apart x y e = go (prefix_eq x y) refl
  where
    go : (b : Bool) → prefix_eq x y ≡ b → b ≡ false
    go true f = sym e ∙ ap (λ v. prefix_before v y) (prefix_same x y f) ∙ prefix_order.one_way y y (ap (λ v. prefix_before v y) (sym (prefix_same x y f)) ∙ e)
    go false f = refl

apart_back : (x y : Prefix) → prefix_before y x ≡ true → prefix_eq x y ≡ false
apart_back x y e = go (prefix_eq x y) refl
  where
    go : (b : Bool) → prefix_eq x y ≡ b → b ≡ false
    go true f = sym e ∙ ap (λ v. prefix_before y v) (prefix_same x y f) ∙ prefix_order.one_way y y (ap (λ v. prefix_before y v) (sym (prefix_same x y f)) ∙ e)
    go false f = refl

least_kept : (x : Prefix) (ys : List Prefix) → Least prefix_before prefix_order x ys → Least prefix_before prefix_order x (without_repeats ys)
unfolding without_repeats
least_kept x [] h = tt
least_kept x (y ∷ ys) h = go (begins_with y ys) (least_kept x ys h.1)
  where
    go : (b : Bool) → Least prefix_before prefix_order x (without_repeats ys) → Least prefix_before prefix_order x (if b then without_repeats ys else y ∷ without_repeats ys)
    go true rest = rest
    go false rest = (h.0, rest)

put_first : (x : Prefix) (ys : List Prefix) → Least prefix_before prefix_order x ys → put_in prefix_before x ys ≡ x ∷ ys
unfolding put_in
put_first x [] h = refl
put_first x (y ∷ ys) h = ap (λ b. if b then y ∷ put_in prefix_before x ys else x ∷ y ∷ ys) h.0

-- what comes before the first comes before all
none_same : (x : Prefix) (ys : List Prefix) → (y : Prefix) → prefix_before x y ≡ true → Least prefix_before prefix_order y ys → list_any (prefix_eq x) ys ≡ false
none_same x [] y e h = refl
none_same x (z ∷ zs) y e h = ap (λ b. b || list_any (prefix_eq x) zs) (go (prefix_eq x z) refl) ∙ none_same x zs y e h.1
  where
    go : (b : Bool) → prefix_eq x z ≡ b → b ≡ false
    go true f = sym e ∙ ap (λ v. prefix_before v y) (prefix_same x z f) ∙ h.0
    go false f = refl

abbrev put_once : Prefix → List Prefix → List Prefix → List Prefix
put_once x ys kept = if list_any (prefix_eq x) ys then kept else put_in prefix_before x kept

behind : (x y : Prefix) (ys : List Prefix) → prefix_before y x ≡ true → begins_with y (put_in prefix_before x ys) ≡ begins_with y ys
unfolding put_in
behind x y [] e = apart y x e
behind x y (z ∷ zs) e = go (prefix_before z x) refl (prefix_eq y z) refl
  where
    go : (b : Bool) → prefix_before z x ≡ b → (c : Bool) → prefix_eq y z ≡ c → begins_with y (if b then z ∷ put_in prefix_before x zs else x ∷ z ∷ zs) ≡ prefix_eq y z
    go true f c g = refl
    go false f true g = absurd (true≢false (sym e ∙ ap (λ v. prefix_before v x) (prefix_same y z g) ∙ f))
    go false f false g = apart y x e ∙ sym g

put_kept : (x : Prefix) (ys : List Prefix) → Rises prefix_before prefix_order ys → without_repeats (put_in prefix_before x ys) ≡ put_once x ys (without_repeats ys)
unfolding put_in without_repeats
put_kept x [] h = refl
put_kept x (y ∷ ys) h = go (prefix_before y x) refl (put_kept x ys h.1)
  where
    kept : List Prefix
    kept = without_repeats ys

    past : (b a c : Bool) → prefix_before y x ≡ true → (if b then (if a then kept else put_in prefix_before x kept) else y ∷ (if a then kept else put_in prefix_before x kept)) ≡ (if a then (if b then kept else y ∷ kept) else put_in prefix_before x (if b then kept else y ∷ kept))
    past true a c e = refl
    past false true c e = refl
    past false false c e = ap (λ t. if t then y ∷ put_in prefix_before x kept else x ∷ y ∷ kept) (sym e)

    first : prefix_before x y ≡ true → prefix_before y x ≡ false → (if list_any (prefix_eq x) ys then without_repeats (y ∷ ys) else put_in prefix_before x (without_repeats (y ∷ ys))) ≡ x ∷ without_repeats (y ∷ ys)
    first e f = ap (λ t. if t then without_repeats (y ∷ ys) else put_in prefix_before x (without_repeats (y ∷ ys))) (none_same x ys y e h.0) ∙ put_first x (without_repeats (y ∷ ys)) (least_kept x (y ∷ ys) (f, least_more prefix_before prefix_order x y ys f h.0))

    known : (c : Bool) → prefix_eq x y ≡ c → c ≡ false → prefix_before y x ≡ false → prefix_before x y ≡ true
    known c g d f = at (prefix_before x y) refl
      where
        at : (b : Bool) → prefix_before x y ≡ b → b ≡ true
        at true k = refl
        at false k = sym (sym (prefix_meets x y k f) ∙ g ∙ d)

    go : (b : Bool) → prefix_before y x ≡ b → without_repeats (put_in prefix_before x ys) ≡ put_once x ys kept
        → without_repeats (if b then y ∷ put_in prefix_before x ys else x ∷ y ∷ ys) ≡ (if prefix_eq x y || list_any (prefix_eq x) ys then without_repeats (y ∷ ys) else put_in prefix_before x (without_repeats (y ∷ ys)))
    go true e rest =
        ap (λ t. if t then without_repeats (put_in prefix_before x ys) else y ∷ without_repeats (put_in prefix_before x ys)) (behind x y ys e)
        ∙ ap (λ l. if begins_with y ys then l else y ∷ l) rest
        ∙ past (begins_with y ys) (list_any (prefix_eq x) ys) true e
        ∙ ap (λ t. if t || list_any (prefix_eq x) ys then without_repeats (y ∷ ys) else put_in prefix_before x (without_repeats (y ∷ ys))) (sym (apart_back x y e))
    go false e rest = at (prefix_eq x y) refl
      where
        at : (c : Bool) → prefix_eq x y ≡ c → (if c then without_repeats (y ∷ ys) else x ∷ without_repeats (y ∷ ys)) ≡ (if c || list_any (prefix_eq x) ys then without_repeats (y ∷ ys) else put_in prefix_before x (without_repeats (y ∷ ys)))
        at true g = refl
        at false g = sym (first (known false g refl e) e)

-- in order and without repeats
pub each_once : (xs : List Prefix) → without_repeats (ascending prefix_before xs) ≡ ascending prefix_before (once xs)
unfolding ascending once without_repeats
each_once [] = refl
each_once (x ∷ xs) =
    put_kept x (ascending prefix_before xs) (ascending_rises prefix_before prefix_order xs)
    ∙ ap (λ t. if t then without_repeats (ascending prefix_before xs) else put_in prefix_before x (without_repeats (ascending prefix_before xs))) (any-ascending prefix_before (prefix_eq x) xs)
    ∙ ap (λ l. if list_any (prefix_eq x) xs then l else put_in prefix_before x l) (each_once xs)
    ∙ go (list_any (prefix_eq x) xs)
  where
    go : (b : Bool) → (if b then ascending prefix_before (once xs) else put_in prefix_before x (ascending prefix_before (once xs))) ≡ ascending prefix_before (if b then once xs else x ∷ once xs)
    go true = refl
    go false = refl
