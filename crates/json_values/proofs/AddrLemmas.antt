-- Texts of addresses of either version and of prefixes, read.
use Rattle.std.proofs.Common.{◌≡◌, ℕ, ◌+◌, ◌^◌, ◌<◌, ◌≤◌, ◌⊎◌, inl, inr, Bool, true, false, ◌||◌, List, [], ◌∷◌, ◌++◌, length, take, drop, Option, Some, None, option_map, option_and_then, codes, decimal, refl, sym, ap, subst, ◌∙◌, arith, append_assoc}
use Rattle.std.specs.Prelude.{◌==◌, get_or}
use Rattle.std.specs.List.{after_first, before_first, position_or_len}
use Rattle.std.proofs.Math.Seq.{drop-append-add, take-append_seam}
use Rattle.std.proofs.lemmas.Bool.{cases_lt}
use Rattle.std.proofs.lemmas.Bool.Decides.{nat_tests}
use Rattle.std.proofs.lemmas.Fmt.{decimal_nonempty}
use Rattle.std.proofs.lemmas.List.{drop_all}
use Rattle.std.proofs.lemmas.List.Sums.{passes_at_first, split_at_first}
use Rattle.net_addr.proofs.FormLemmas.{address6_once, address_once, has, no_slash, one_version}
use Rattle.net_addr.specs.Addresses.{width}
use Rattle.net_addr.specs.Prefixes.{Written}
use Rattle.net_addr.specs.Spelling.{SpellsAddr, SpellsAddress, SpellsAddress6, SpellsCidr, IsAddrText, IsAddress6Text, IsCidrText}
use Rattle.net_addr.specs.declared.address.Addr.{Addr}
use Rattle.net_addr.specs.declared.address.Addr.TheVariants.{V4, V6}
use Rattle.json_values.proofs.AddressLemmas.{four_read, four_spelled, no_four, number_is, number_read}
use Rattle.json_values.proofs.SixLemmas.{six_given, six_spelled}
use Rattle.json_values.specs.Numbers.{number_in, four_in}
use Rattle.json_values.specs.Six.{or_else, six_in}
use Rattle.json_values.specs.Texts.{address_in, is_slash, written, written_in}

-- ---- addresses

by_versions : (text : List ℕ) (f s : Option ℕ) (a : Addr) → four_in text ≡ f → six_in text ≡ s → or_else (option_map V4 f) (option_map V6 s) ≡ Some a → SpellsAddr text a
by_versions text (Some n) s a is six e = let same : V4 n ≡ a = cc in subst (SpellsAddr text) same (four_spelled text n is)
by_versions text None (Some n) a is six e = let same : V6 n ≡ a = cc in subst (SpellsAddr text) same (six_spelled text n six)
by_versions text None None a is six e = absurd cc

-- what is read is spelled
pub addr_spelled : (text : List ℕ) (a : Addr) → address_in text ≡ Some a → SpellsAddr text a
addr_spelled text a e = by_versions text (four_in text) (six_in text) a refl refl e

-- and what is spelled is read
four_given : (text : List ℕ) (n : ℕ) → SpellsAddress text n → Some n ≡ four_in text
four_given text n h = four_read text n h (λ m other. address_once text m n other h)

four_first : (f s : Option ℕ) (n : ℕ) → Some n ≡ f → Some (V4 n) ≡ or_else (option_map V4 f) (option_map V6 s)
four_first f s n e = ap (λ (o : Option ℕ). or_else (option_map V4 o) (option_map V6 s)) e

six_next : (f s : Option ℕ) (n : ℕ) → None ≡ f → s ≡ Some n → Some (V6 n) ≡ or_else (option_map V4 f) (option_map V6 s)
six_next f s n e g = ap (λ (o : Option ℕ). option_map V6 o) (sym g) ∙ ap (λ (o : Option ℕ). or_else (option_map V4 o) (option_map V6 s)) e

pub six_read : (text : List ℕ) (n : ℕ) → SpellsAddress6 text n → ((m : ℕ) → SpellsAddress6 text m → m ≡ n) → Some n ≡ six_in text
six_read text n h only =
    let g = six_given text n h in
    ap Some (sym (only g.0 (six_spelled text g.0 g.1))) ∙ sym g.1

no_six_by : (text : List ℕ) (o : Option ℕ) → six_in text ≡ o → (IsAddress6Text text → ⊥) → None ≡ o
no_six_by text None is none = refl
no_six_by text (Some n) is none = absurd (none (n, six_spelled text n is))

pub no_six : (text : List ℕ) → (IsAddress6Text text → ⊥) → None ≡ six_in text
no_six text none = no_six_by text (six_in text) refl none

pub addr_given : (text : List ℕ) (a : Addr) → SpellsAddr text a → Some a ≡ address_in text
addr_given text (V4 n) h = four_first (four_in text) (six_in text) n (four_given text n h)
addr_given text (V6 n) h =
    let none = no_four text (λ four. one_version text four.0 n four.1 h) in
    let g = six_given text n h in
    let same : g.0 ≡ n = address6_once text g.0 n (six_spelled text g.0 g.1) h in
    six_next (four_in text) (six_in text) n none (g.1 ∙ ap Some same)

pub address_read : (text : List ℕ) (a : Addr) → SpellsAddr text a → ((b : Addr) → SpellsAddr text b → b ≡ a) → Some a ≡ address_in text
address_read text a h only = addr_given text a h

none_by : (text : List ℕ) (o : Option Addr) → address_in text ≡ o → (IsAddrText text → ⊥) → None ≡ o
none_by text None is none = refl
none_by text (Some a) is none = absurd (none (a, addr_spelled text a is))

pub no_address : (text : List ℕ) → (IsAddrText text → ⊥) → None ≡ address_in text
no_address text none = none_by text (address_in text) refl none

-- ---- an address and a length

-- a text up to its first slash, and behind it
slash_in : (b : ℕ) → (b == 47) ≡ true → b ≡ 47
slash_in b e = grind (arith, nat_tests)

apart : (text : List ℕ) → position_or_len is_slash text < length text → text ≡ before_first is_slash text ++ (47 ∷ after_first is_slash text)
apart text l =
    let there = slash_in (get_or text (position_or_len is_slash text) 0) (passes_at_first is_slash text 0 l) in
    split_at_first is_slash text 0 l ∙ ap (λ (b : ℕ). before_first is_slash text ++ (b ∷ after_first is_slash text)) there

or_left : (a b : Bool) → (a || b) ≡ false → a ≡ false
or_left false b h = refl
or_left true b h = cc

or_right : (a b : Bool) → (a || b) ≡ false → b ≡ false
or_right false b h = h
or_right true b h = cc

first_at : (front rest : List ℕ) → has 47 front ≡ false → position_or_len is_slash (front ++ (47 ∷ rest)) ≡ length front
first_at [] rest h = refl
first_at (b ∷ front) rest h =
    let no : (b == 47) ≡ false = or_left (b == 47) (has 47 front) h in
    let more = first_at front rest (or_right (b == 47) (has 47 front) h) in
    rw (no, more) (omega arith)

front_is : (front rest : List ℕ) → has 47 front ≡ false → before_first is_slash (front ++ (47 ∷ rest)) ≡ front
front_is front rest h = ap (λ (k : ℕ). take k (front ++ (47 ∷ rest))) (first_at front rest h) ∙ take-append_seam front (47 ∷ rest)

rest_is : (front rest : List ℕ) → has 47 front ≡ false → after_first is_slash (front ++ (47 ∷ rest)) ≡ rest
rest_is front rest h = ap (λ (k : ℕ). drop (k + 1) (front ++ (47 ∷ rest))) (first_at front rest h) ∙ drop-append-add front (47 ∷ rest) 1

or_true : (b : Bool) → (b || true) ≡ true
or_true true = refl
or_true false = refl

has_slash : (front rest : List ℕ) → has 47 (front ++ (47 ∷ rest)) ≡ true
has_slash [] rest = refl
has_slash (b ∷ front) rest = let more = has_slash front rest in rw more (or_true (b == 47))

-- no address has a slash
pub slash_apart : (front rest : List ℕ) → None ≡ address_in (front ++ (47 ∷ rest))
slash_apart front rest = no_address (front ++ (47 ∷ rest)) (λ w. let none = no_slash (front ++ (47 ∷ rest)) w.0 w.1 in let some = has_slash front rest in absurd cc)

width_small : (a : Addr) → width a ≤ 128
width_small (V4 n) = omega arith
width_small (V6 n) = omega arith

pub cidr_given : (text : List ℕ) (w : Written) → SpellsCidr text w → Some w ≡ written_in text
unfolding SpellsCidr written_in
cidr_given text w (front, s, l, e) =
    let whole : text ≡ front ++ (47 ∷ decimal w.len) = e ∙ append_assoc front (codes "/") (decimal w.len) in
    let none = no_slash front w.addr s in
    let before : before_first is_slash text ≡ front = ap (before_first is_slash) whole ∙ front_is front (decimal w.len) none in
    let after : after_first is_slash text ≡ decimal w.len = ap (after_first is_slash) whole ∙ rest_is front (decimal w.len) none in
    let addr : Some w.addr ≡ address_in (before_first is_slash text) = addr_given front w.addr s ∙ ap address_in (sym before) in
    let small = width_small w.addr in
    let len : Some w.len ≡ number_in (width w.addr + 1) (after_first is_slash text) =
    number_read (width w.addr + 1) (after_first is_slash text) w.len (omega (arith, small)) (omega (arith, l)) (sym after) in
    ap (option_map (written w.addr)) len ∙ ap (option_and_then (λ a. option_map (written a) (number_in (width a + 1) (after_first is_slash text)))) addr

pub cidr_read : (text : List ℕ) (w : Written) → SpellsCidr text w → ((v : Written) → SpellsCidr text v → v ≡ w) → Some w ≡ written_in text
cidr_read text w h only = cidr_given text w h

long_after : (text : List ℕ) → length text ≤ position_or_len is_slash text → after_first is_slash text ≡ []
long_after text l = drop_all (position_or_len is_slash text + 1) text (omega (arith, l))

-- a number has a digit
no_number_in_none : (bound n : ℕ) → bound ≤ 2 ^ 64 → number_in bound [] ≡ Some n → ⊥
no_number_in_none bound n small e =
    let p = number_is bound [] n e in
    let some = decimal_nonempty n (omega (arith, p.0, small)) in
    let none : length (decimal n) ≡ 0 = ap length p.1 in
    omega (arith, some, none)

written_by : (text : List ℕ) (w : Written) (o : Option Addr) → address_in (before_first is_slash text) ≡ o
    → option_and_then (λ a. option_map (written a) (number_in (width a + 1) (after_first is_slash text))) o ≡ Some w → SpellsCidr text w
unfolding SpellsCidr
written_by text w None is e = absurd cc
written_by text w (Some a) is e = with_number (number_in (width a + 1) (after_first is_slash text)) refl e
  where
    with_number : (m : Option ℕ) → number_in (width a + 1) (after_first is_slash text) ≡ m → option_map (written a) m ≡ Some w → SpellsCidr text w
    with_number None num e = absurd cc
    with_number (Some n) num e =
        let same : written a n ≡ w = cc in
        let small = width_small a in
        let p = number_is (width a + 1) (after_first is_slash text) n num in
        let cut = here (cases_lt (position_or_len is_slash text) (length text)) num in
        let s : SpellsCidr text (written a n) = (
          before_first is_slash text,
          addr_spelled (before_first is_slash text) a is,
          omega (arith, p.0),
          cut ∙ ap (λ (t : List ℕ). before_first is_slash text ++ (47 ∷ t)) (sym p.1) ∙ sym (append_assoc (before_first is_slash text) (codes "/") (decimal n)),
        ) in
        subst (SpellsCidr text) same s
      where
        here : (position_or_len is_slash text < length text) ⊎ (length text ≤ position_or_len is_slash text) → number_in (width a + 1) (after_first is_slash text) ≡ Some n
            → text ≡ before_first is_slash text ++ (47 ∷ after_first is_slash text)
        here (inl l) num = apart text l
        here (inr l) num =
            let small = width_small a in
            absurd (no_number_in_none (width a + 1) n (omega (arith, small)) (ap (number_in (width a + 1)) (sym (long_after text l)) ∙ num))

pub cidr_spelled : (text : List ℕ) (w : Written) → written_in text ≡ Some w → SpellsCidr text w
unfolding written_in
cidr_spelled text w e = written_by text w (address_in (before_first is_slash text)) refl e

none_written : (text : List ℕ) (o : Option Written) → written_in text ≡ o → (IsCidrText text → ⊥) → None ≡ o
none_written text None is none = refl
none_written text (Some w) is none = absurd (none (w, cidr_spelled text w is))

pub no_cidr : (text : List ℕ) → (IsCidrText text → ⊥) → None ≡ written_in text
no_cidr text none = none_written text (written_in text) refl none
