-- A text cut at its first slash: an address and the length of a prefix.
use Rattle.std.proofs.Common.{◌≡◌, ℕ, zero, suc, ◌+◌, ◌-◌, ◌<◌, ◌≤◌, ◌⊎◌, inl, inr, Bool, true, false, ◌||◌, ◌==◌, List, [], ◌∷◌, ◌++◌, length, take, drop, get_or, codes, refl, sym, subst, ap, ap₂, ◌∙◌, arith, append_assoc}
use Rattle.std.proofs.Math.Seq.{take-add, take-suc}
use Rattle.std.proofs.lemmas.Bool.{cases_lt}
use Rattle.std.proofs.lemmas.Bool.Decides.{nat_tests}
use Rattle.std.proofs.lemmas.Fmt.{decimal_injective}
use Rattle.std.proofs.lemmas.List.{append-nil, length-drop, length-take-le, take-take}
use Rattle.std.specs.Fmt.{decimal}
use Rattle.net_addr.specs.Addresses.{width}
use Rattle.net_addr.specs.Prefixes.{Written}
use Rattle.net_addr.specs.Spelling.{Begins, IsAddrText, IsCidrText, IsLongestStart, IsTextOf, Spells, SpellsAddr, SpellsCidr}
use Rattle.net_addr.specs.declared.address.Addr.{Addr}
use Rattle.net_addr.specs.declared.address.Addr.TheVariants.{V4, V6}
use Rattle.net_addr.specs.declared.spelling.Part.TheVariants.{Number}
use Rattle.net_addr.proofs.FormLemmas.{addr_once, has, no_slash, or_neither, or_none}
use Rattle.net_addr.proofs.ReadingLemmas.{take_all}

-- a byte in two texts in a row

has_it : (c : ℕ) (xs : List ℕ) → has c (c ∷ xs) ≡ true
has_it c xs = let e : (c == c) ≡ true = grind (arith, nat_tests) in rw e

has_behind : (c : ℕ) (xs ys : List ℕ) → has c (xs ++ (c ∷ ys)) ≡ true
has_behind c [] ys = has_it c ys
has_behind c (x ∷ xs) ys = let e = has_behind c xs ys in go (x == c) e
  where
    go : (b : Bool) → has c (xs ++ (c ∷ ys)) ≡ true → (b || has c (xs ++ (c ∷ ys))) ≡ true
    go true e = refl
    go false e = e

has_not : (c x : ℕ) (xs : List ℕ) → has c (x ∷ xs) ≡ false → x ≡ c → ⊥
has_not c x xs h e =
    let no : (x == c) ≡ false = or_none _ _ h in
    let yes : (x == c) ≡ true = grind (arith, nat_tests) in
    cc

has_front : (c : ℕ) (xs ys : List ℕ) → has c (xs ++ ys) ≡ false → has c xs ≡ false
has_front c [] ys h = refl
has_front c (x ∷ xs) ys h =
    let a : (x == c) ≡ false = or_none _ _ h in
    let b : has c xs ≡ false = has_front c xs ys (or_neither _ _ h) in
    rw (a, b)

-- a text is cut in one way where its first byte c is
cut : (c : ℕ) (a b x y : List ℕ) → has c a ≡ false → has c x ≡ false → a ++ (c ∷ b) ≡ x ++ (c ∷ y) → (a ≡ x) × (b ≡ y)
cut c [] b [] y ha hx e = (refl, cc)
cut c [] b (z ∷ x) y ha hx e = let same : z ≡ c = cc in absurd (has_not c z x hx same)
cut c (z ∷ a) b [] y ha hx e = let same : z ≡ c = cc in absurd (has_not c z a ha same)
cut c (z ∷ a) b (w ∷ x) y ha hx e =
    let same : z ≡ w = cc in
    let back : a ++ (c ∷ b) ≡ x ++ (c ∷ y) = cc in
    let r = cut c a b x y (or_neither _ _ ha) (or_neither _ _ hx) back in
    let front : a ≡ x = r.0 in
    (ap (λ (k : ℕ). k ∷ a) same ∙ ap (λ (ts : List ℕ). w ∷ ts) front, r.1)

-- a front without c ends at the first c or before it
front_within : (c : ℕ) (p r x y : List ℕ) → has c p ≡ false → p ++ r ≡ x ++ (c ∷ y)
    → (more : List ℕ) × (x ≡ p ++ more)
front_within c [] r x y h e = (x, refl)
front_within c (z ∷ p) r [] y h e = let same : z ≡ c = cc in absurd (has_not c z p h same)
front_within c (z ∷ p) r (w ∷ x) y h e =
    let same : w ≡ z = cc in
    let back : p ++ r ≡ x ++ (c ∷ y) = cc in
    let f = front_within c p r x y (or_neither _ _ h) back in
    (f.0, ap (λ (k : ℕ). k ∷ x) same ∙ ap (λ (ts : List ℕ). z ∷ ts) f.1)

pub none_before : (c : ℕ) (text : List ℕ) (i : ℕ) → ((k : ℕ) → k < i → get_or text k 0 ≡ c → ⊥)
    → has c (take i text) ≡ false
none_before c [] zero h = refl
none_before c [] (suc i) h = refl
none_before c (x ∷ xs) zero h = refl
none_before c (x ∷ xs) (suc i) h =
    let rest : has c (take i xs) ≡ false = none_before c xs i (λ k l e. h (suc k) (omega (arith, l)) e) in
    let first : x ≡ c → ⊥ = h 0 (omega arith) in
    let no : (x == c) ≡ false = grind (arith, nat_tests) in
    rw (no, rest)

-- a text up to a place behind i, and the whole
past : (text : List ℕ) (i j : ℕ) → i < length text
    → take (suc i + j) text ≡ take i text ++ (get_or text i 0 ∷ take j (drop (suc i) text))
past text i j l =
    take-add (suc i) j text ∙ ap (λ (ts : List ℕ). ts ++ take j (drop (suc i) text)) (take-suc text i 0 l)
    ∙ append_assoc (take i text) (get_or text i 0 ∷ []) (take j (drop (suc i) text))

past_slash : (text : List ℕ) (i k : ℕ) → i < k → k ≤ length text → get_or text i 0 ≡ 47
    → take k text ≡ take i text ++ (47 ∷ take (k - suc i) (drop (suc i) text))
past_slash text i k l within e =
    let s : k ≡ suc i + (k - suc i) = omega (arith, l) in
    ap (λ (m : ℕ). take m text) s ∙ past text i (k - suc i) (omega (arith, l, within))
    ∙ ap (λ (c : ℕ). take i text ++ (c ∷ take (k - suc i) (drop (suc i) text))) e

whole_text : (text : List ℕ) → take (length text) text ++ [] ≡ text
whole_text text = append-nil (take (length text) text) ∙ take_all text

whole_rest : (text : List ℕ) (i : ℕ) → i < length text
    → take (length text - suc i) (drop (suc i) text) ≡ drop (suc i) text
whole_rest text i l =
    let e : length text - suc i ≡ length (drop (suc i) text) = sym (length-drop (suc i) text) in
    ap (λ (m : ℕ). take m (drop (suc i) text)) e ∙ take_all (drop (suc i) text)

-- the length of a prefix
number_is : (top : ℕ) (text : List ℕ) (n : ℕ) → Spells (Number top ∷ []) 0 text n → (n ≤ top) × (text ≡ decimal n)
unfolding Spells
number_is top text n (m, rest, hm, e, (none, same)) =
    let v : m ≡ n = omega (arith, same) in
    (omega (arith, hm, v), e ∙ ap (λ (ts : List ℕ). decimal m ++ ts) none ∙ append-nil (decimal m) ∙ ap (λ (k : ℕ). decimal k) v)

number_spelled : (top : ℕ) (text : List ℕ) (n : ℕ) → n ≤ top → text ≡ decimal n → Spells (Number top ∷ []) 0 text n
unfolding Spells
number_spelled top text n l e = (n, [], l, e ∙ sym (append-nil (decimal n)), (refl, omega arith))

pub number_bound : (top : ℕ) (text : List ℕ) (n : ℕ) → Spells (Number top ∷ []) 0 text n → n ≤ top
number_bound top text n s = (number_is top text n s).0

pub width_small : (a : Addr) → width a ≤ 128
width_small (V4 n) = omega arith
width_small (V6 n) = omega arith

-- a prefix's text from its parts
cidr_of : (front rest : List ℕ) (a : Addr) (n : ℕ) → SpellsAddr front a → n ≤ width a → rest ≡ decimal n
    → SpellsCidr (front ++ (47 ∷ rest)) (record { addr = a; len = n })
unfolding SpellsCidr
cidr_of front rest a n s l e = (front, s, l, ap (λ (ts : List ℕ). front ++ (47 ∷ ts)) e ∙ sym (append_assoc front (codes "/") (decimal n)))

-- its parts from its text
parts_of : (front rest : List ℕ) (w : Written) → has 47 front ≡ false → SpellsCidr (front ++ (47 ∷ rest)) w
    → SpellsAddr front w.addr × (w.len ≤ width w.addr) × (rest ≡ decimal w.len)
unfolding SpellsCidr
parts_of front rest w h (f, s, l, e) =
    let r = cut 47 front rest f (decimal w.len) h (no_slash f w.addr s) (e ∙ append_assoc f (codes "/") (decimal w.len)) in
    (subst (λ (ts : List ℕ). SpellsAddr ts w.addr) (sym r.0) s, l, r.1)

before_slash : (p r : List ℕ) (w : Written) → has 47 p ≡ false → SpellsCidr (p ++ r) w
    → (more : List ℕ) × SpellsAddr (p ++ more) w.addr
unfolding SpellsCidr
before_slash p r w h (f, s, l, e) =
    let b = front_within 47 p r f (decimal w.len) h (e ∙ append_assoc f (codes "/") (decimal w.len)) in
    (b.0, subst (λ (ts : List ℕ). SpellsAddr ts w.addr) b.1 s)

has_slash : (text : List ℕ) (w : Written) → SpellsCidr text w → has 47 text ≡ true
unfolding SpellsCidr
has_slash text w (f, s, l, e) = ap (has 47) (e ∙ append_assoc f (codes "/") (decimal w.len))
    ∙ has_behind 47 f (decimal w.len)

-- the first slash of a text, if there is one
pub record IsFirstSlash (text : List ℕ) (i : ℕ) : Type 0 where
  pub within : i ≤ length text
  pub before : has 47 (take i text) ≡ false
  pub found : i < length text → get_or text i 0 ≡ 47

parts_up_to : (text : List ℕ) (i k : ℕ) (r : List ℕ) (w : Written) → IsFirstSlash text i → i < k → k ≤ length text
    → SpellsCidr (take k text ++ r) w
    → SpellsAddr (take i text) w.addr × (w.len ≤ width w.addr) × (take (k - suc i) (drop (suc i) text) ++ r ≡ decimal w.len)
parts_up_to text i k r w f l inside s =
    let e : take k text ++ r ≡ take i text ++ (47 ∷ (take (k - suc i) (drop (suc i) text) ++ r)) =
    ap (λ (ts : List ℕ). ts ++ r) (past_slash text i k l inside (f.found (omega (arith, l, inside))))
    ∙ append_assoc (take i text) (47 ∷ take (k - suc i) (drop (suc i) text)) r in
    parts_of (take i text) (take (k - suc i) (drop (suc i) text) ++ r) w f.before (subst (λ (ts : List ℕ). SpellsCidr ts w) e s)

parts_of_whole : (text : List ℕ) (i : ℕ) (w : Written) → IsFirstSlash text i → i < length text → SpellsCidr text w
    → SpellsAddr (take i text) w.addr × (w.len ≤ width w.addr) × (drop (suc i) text ≡ decimal w.len)
parts_of_whole text i w f l s =
    let p = parts_up_to text i (length text) [] w f l (omega arith) (subst (λ (ts : List ℕ). SpellsCidr ts w) (sym (whole_text text)) s) in
    (p.0, p.1, sym (append-nil (take (length text - suc i) (drop (suc i) text)) ∙ whole_rest text i l) ∙ p.2)

-- the front is no address
pub bad_front : (text : List ℕ) (i at : ℕ) → IsFirstSlash text i → (IsAddrText (take i text) → ⊥)
    → IsLongestStart IsAddrText (take i text) at
    → (IsCidrText text → ⊥) × IsLongestStart IsCidrText text at
bad_front text i at f none start = (
  λ (w, s). refused w s (cases_lt i (length text)),
  record {
    within = omega (arith, start.within, size, f.within);
    begins = begins;
    longest = λ k below inside b. longest k below inside b (cases_lt i k);
  },
)
  where
    size : length (take i text) ≡ i
    size = length-take-le i text f.within

    refused : (w : Written) → SpellsCidr text w → (i < length text) ⊎ (length text ≤ i) → ⊥
    refused w s (inl l) = none (w.addr, (parts_of_whole text i w f l s).0)
    refused w s (inr l) =
        let e : i ≡ length text = omega (arith, l, f.within) in
        let same : take i text ≡ text = ap (λ (m : ℕ). take m text) e ∙ take_all text in
        let no : has 47 text ≡ false = ap (has 47) (sym same) ∙ f.before in
        let yes = has_slash text w s in
        cc

    begins : Begins IsCidrText (take at text)
    begins =
        let b = start.begins in
        let e : take at (take i text) ≡ take at text = take-take at i text (omega (arith, start.within, size)) in
        let a = b.1.0 in
        let s : SpellsAddr (take at text ++ b.0) a = subst (λ (ts : List ℕ). SpellsAddr (ts ++ b.0) a) e b.1.1 in
        let c = cidr_of (take at text ++ b.0) (decimal 0) a 0 s (omega arith) refl in
        (b.0 ++ (47 ∷ decimal 0), (record { addr = a; len = 0 }, subst (λ (ts : List ℕ). SpellsCidr ts (record { addr = a; len = 0 })) (append_assoc (take at text) b.0 (47 ∷ decimal 0)) c))

    longest : (k : ℕ) → at < k → k ≤ length text → Begins IsCidrText (take k text) → (i < k) ⊎ (k ≤ i) → ⊥
    longest k below inside b (inl l) = none (b.1.0.addr, (parts_up_to text i k b.0 b.1.0 f l inside b.1.1).0)
    longest k below inside b (inr l) =
        let e : take k (take i text) ≡ take k text = take-take k i text l in
        let j : k + (i - k) ≡ i = omega (arith, l) in
        let split : take i text ≡ take k text ++ take (i - k) (drop k text) = ap (λ (m : ℕ). take m text) (sym j)
        ∙ take-add k (i - k) text in
        let h : has 47 (take k text) ≡ false = has_front 47 (take k text) (take (i - k) (drop k text)) (ap (has 47) (sym split) ∙ f.before) in
        let s = before_slash (take k text) b.0 b.1.0 h b.1.1 in
        start.longest k below (omega (arith, l, size)) (s.0, (b.1.0.addr, subst (λ (ts : List ℕ). SpellsAddr (ts ++ s.0) b.1.0.addr) (sym e) s.1))

-- the text is an address
pub no_length : (text : List ℕ) (i : ℕ) (a : Addr) → IsFirstSlash text i → i ≡ length text
    → SpellsAddr (take i text) a → (IsCidrText text → ⊥) × IsLongestStart IsCidrText text i
no_length text i a f e s = (
  λ (w, c). let yes = has_slash text w c in let none = no in cc,
  record {
    within = f.within;
    begins = (47 ∷ decimal 0, (record { addr = a; len = 0 }, cidr_of (take i text) (decimal 0) a 0 s (omega arith) refl));
    longest = λ k below inside b. omega (arith, below, inside, e);
  },
)
  where
    no : has 47 text ≡ false
    no = ap (has 47) (sym (ap (λ (m : ℕ). take m text) e ∙ take_all text)) ∙ f.before

-- the number is none
pub bad_length : (text : List ℕ) (i at : ℕ) (a : Addr) → IsFirstSlash text i → i < length text
    → SpellsAddr (take i text) a
    → (IsTextOf (Number (width a) ∷ []) (drop (suc i) text) → ⊥)
    → IsLongestStart (IsTextOf (Number (width a) ∷ [])) (drop (suc i) text) at
    → (IsCidrText text → ⊥) × IsLongestStart IsCidrText text (suc i + at)
bad_length text i at a f l s none start = (
  λ (w, c).
      let p = parts_of_whole text i w f l c in
      let same : w.addr ≡ a = addr_once (take i text) w.addr a p.0 s in
      none (w.len, number_spelled (width a) (drop (suc i) text) w.len (subst (λ (x : Addr). w.len ≤ width x) same p.1) p.2),
  record {
    within = omega (arith, start.within, size, l);
    begins = begins;
    longest = longest;
  },
)
  where
    size : length (drop (suc i) text) ≡ length text - suc i
    size = length-drop (suc i) text

    begins : Begins IsCidrText (take (suc i + at) text)
    begins =
        let b = start.begins in
        let n = number_is (width a) (take at (drop (suc i) text) ++ b.0) b.1.0 b.1.1 in
        let w : Written = record { addr = a; len = b.1.0 } in
        let e : take (suc i + at) text ++ b.0 ≡ take i text ++ (47 ∷ (take at (drop (suc i) text) ++ b.0)) =
        ap (λ (ts : List ℕ). ts ++ b.0) (past text i at l ∙ ap (λ (c : ℕ). take i text ++ (c ∷ take at (drop (suc i) text))) (f.found l))
        ∙ append_assoc (take i text) (47 ∷ take at (drop (suc i) text)) b.0 in
        (b.0, (w, subst (λ (ts : List ℕ). SpellsCidr ts w) (sym e) (cidr_of (take i text) (take at (drop (suc i) text) ++ b.0) a b.1.0 s n.0 n.1)))

    longest : (k : ℕ) → suc i + at < k → k ≤ length text → Begins IsCidrText (take k text) → ⊥
    longest k below inside b =
        let w = b.1.0 in
        let p = parts_up_to text i k b.0 w f (omega (arith, below)) inside b.1.1 in
        let same : w.addr ≡ a = addr_once (take i text) w.addr a p.0 s in
        start.longest (k - suc i) (omega (arith, below)) (omega (arith, inside, size))
        (b.0, (w.len, number_spelled (width a) (take (k - suc i) (drop (suc i) text) ++ b.0) w.len (subst (λ (x : Addr). w.len ≤ width x) same p.1) p.2))

-- a good prefix
pub cidr_spelled : (text : List ℕ) (i n : ℕ) (a : Addr) → IsFirstSlash text i → i < length text
    → SpellsAddr (take i text) a → Spells (Number (width a) ∷ []) 0 (drop (suc i) text) n
    → SpellsCidr text (record { addr = a; len = n })
cidr_spelled text i n a f l s t =
    let m = number_is (width a) (drop (suc i) text) n t in
    let e : take i text ++ (47 ∷ drop (suc i) text) ≡ text =
    ap (λ (ts : List ℕ). take i text ++ (47 ∷ ts)) (sym (whole_rest text i l))
    ∙ sym (past_slash text i (length text) l (omega arith) (f.found l)) ∙ take_all text in
    subst (λ (ts : List ℕ). SpellsCidr ts (record { addr = a; len = n })) e (cidr_of (take i text) (drop (suc i) text) a n s m.0 m.1)

-- a text is one of one prefix
pub cidr_once : (text : List ℕ) (v w : Written) → SpellsCidr text v → SpellsCidr text w → v ≡ w
unfolding SpellsCidr
cidr_once text v w (f, s, l, e) (f', s', l', e') =
    let both : f ++ (47 ∷ decimal v.len) ≡ f' ++ (47 ∷ decimal w.len) =
    sym (e ∙ append_assoc f (codes "/") (decimal v.len)) ∙ e' ∙ append_assoc f' (codes "/") (decimal w.len) in
    let r = cut 47 f (decimal v.len) f' (decimal w.len) (no_slash f v.addr s) (no_slash f' w.addr s') both in
    let addr : v.addr ≡ w.addr = addr_once f' v.addr w.addr (subst (λ (ts : List ℕ). SpellsAddr ts v.addr) r.0 s) s' in
    let len : v.len ≡ w.len = decimal_injective v.len w.len (omega (arith, l, width_small v.addr)) (omega (arith, l', width_small w.addr)) r.1 in
    ap₂ (λ (x : Addr) (k : ℕ). let u : Written = record { addr = x; len = k } in u) addr len

-- the same in the words of the code, which counts the place behind the slash and the width itself
pub first_slash : (text : List ℕ) (i : ℕ) → i ≤ length text → ((k : ℕ) → k < i → get_or text k 0 ≡ 47 → ⊥)
    → (i < length text → get_or text i 0 ≡ 47) → IsFirstSlash text i
first_slash text i within before found = record { within = within; before = none_before 47 text i before; found = found }

rest_is : (text : List ℕ) (i j : ℕ) → j ≡ i + 1 → take (length text - j) (drop j text) ≡ drop (suc i) text
rest_is text i j ej =
    let e : j ≡ suc i = omega (arith, ej) in
    ap (λ (m : ℕ). take m (drop j text)) (sym (length-drop j text)) ∙ take_all (drop j text)
    ∙ ap (λ (k : ℕ). drop k text) e

pub number_behind : (text : List ℕ) (i j top n : ℕ) (a : Addr) → j ≡ i + 1 → top ≡ width a
    → Spells (Number top ∷ []) 0 (take (length text - j) (drop j text)) n
    → Spells (Number (width a) ∷ []) 0 (drop (suc i) text) n
number_behind text i j top n a ej et s =
    subst (λ (t : ℕ). Spells (Number t ∷ []) 0 (drop (suc i) text) n) et (subst (λ (ts : List ℕ). Spells (Number top ∷ []) 0 ts n) (rest_is text i j ej) s)

pub bad_number : (text : List ℕ) (i j top at : ℕ) (a : Addr) → j ≡ i + 1 → top ≡ width a → IsFirstSlash text i
    → i < length text → SpellsAddr (take i text) a
    → (IsTextOf (Number top ∷ []) (take (length text - j) (drop j text)) → ⊥)
    → IsLongestStart (IsTextOf (Number top ∷ [])) (take (length text - j) (drop j text)) at
    → (IsCidrText text → ⊥) × IsLongestStart IsCidrText text (j + at)
bad_number text i j top at a ej et f l s none start =
    let e : suc i ≡ j = omega (arith, ej) in
    let rest = rest_is text i j ej in
    let none' =
    subst (λ (t : ℕ). IsTextOf (Number t ∷ []) (drop (suc i) text) → ⊥) et (subst (λ (ts : List ℕ). IsTextOf (Number top ∷ []) ts → ⊥) rest none) in
    let start' =
    subst (λ (t : ℕ). IsLongestStart (IsTextOf (Number t ∷ [])) (drop (suc i) text) at) et (subst (λ (ts : List ℕ). IsLongestStart (IsTextOf (Number top ∷ [])) ts at) rest start) in
    subst (λ (k : ℕ). (IsCidrText text → ⊥) × IsLongestStart IsCidrText text (k + at)) e (bad_length text i at a f l s none' start')
