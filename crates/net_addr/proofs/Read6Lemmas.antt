-- A text of version 6 read by each form.
use Rattle.std.proofs.Common.{◌≡◌, ℕ, ◌+◌, ◌-◌, ◌*◌, ◌<◌, ◌≤◌, ◌⊎◌, inl, inr, List, length, max, Bool, true, false, Result, refl, subst, ap, ◌∙◌, arith}
use Rattle.net_addr.specs.Reading.{IsRead, SpellsBehind, SpellsShortened, SpellsWhole, better_of}
use Rattle.net_addr.specs.Spelling.{IsAddrText, IsAddress6Text, IsAddressText, IsLongestStart, Spells, SpellsAddress6, end_parts, group_count, row_parts, shortened_parts}
use Rattle.net_addr.specs.declared.address.Addr.TheVariants.{V4, V6}
use Rattle.net_addr.specs.declared.spelling.BadAddress.{BadAddress}
use Rattle.net_addr.specs.declared.spelling.Part.{Part}
use Rattle.net_addr.proofs.FormLemmas.{length_row}
use Rattle.net_addr.proofs.GrammarLemmas.{longer_start, read_along, read_by_either}
use Rattle.net_addr.proofs.ReadingLemmas.{starts_along}
use Rattle.net_addr.proofs.SpellingLemmas.{completes}

-- the room of a form's first groups
pub room_of_row : (has_tail : Bool) (left right : ℕ) (form : List Part) → left + right < group_count has_tail
    → form ≡ row_parts left
    → (length form + 2 ≤ 19) × (length form + 2 + 2 * right ≤ 2 * group_count has_tail)
room_of_row false left right form l e = let n : length form ≡ 2 * left - 1 = ap (λ (ps : List Part). length ps) e
    ∙ length_row left in (omega (arith, n, l), omega (arith, n, l))
room_of_row true left right form l e = let n : length form ≡ 2 * left - 1 = ap (λ (ps : List Part). length ps) e
    ∙ length_row left in (omega (arith, n, l), omega (arith, n, l))

-- some text has `::` behind so many groups
pub text_behind : (has_tail : Bool) (left : ℕ) → left < group_count has_tail
    → (text : List ℕ) × ((n : ℕ) × SpellsBehind has_tail left text n)
unfolding SpellsBehind
text_behind has_tail left l =
    let (t, w) = completes (shortened_parts has_tail left 0) 0 in
    (t, (w.0, (0, omega (arith, l), w.1)))

pub text_shortened : (has_tail : Bool) → 0 < group_count has_tail
    → (text : List ℕ) × ((n : ℕ) × SpellsShortened has_tail text n)
unfolding SpellsShortened
text_shortened has_tail l = let w = text_behind has_tail 0 l in (w.0, (w.1.0, (0, l, w.1.1)))

pub some_groups : (has_tail : Bool) → 0 < group_count has_tail
some_groups false = omega arith
some_groups true = omega arith

abbrev pub SpellsEnding : Bool → List ℕ → ℕ → Type 0
SpellsEnding has_tail text n = SpellsWhole has_tail text n ⊎ SpellsShortened has_tail text n

-- one of the forms
spelled : (has_tail : Bool) (text : List ℕ) (n : ℕ) → SpellsEnding has_tail text n → SpellsAddress6 text n
unfolding SpellsWhole SpellsShortened SpellsBehind SpellsAddress6
spelled has_tail text n (inl s) = (end_parts has_tail (group_count has_tail), (has_tail, inl refl), s)
spelled has_tail text n (inr (left, few, (right, l, s))) = (shortened_parts has_tail left right, (has_tail, inr (left, right, l, refl)), s)

spelled_by : (has_tail : Bool) (parts : List Part) (text : List ℕ) (n : ℕ)
    → (parts ≡ end_parts has_tail (group_count has_tail)) ⊎ ((left : ℕ) × (right : ℕ) × (left + right < group_count has_tail) × (parts ≡ shortened_parts has_tail left right))
    → Spells parts 0 text n → SpellsEnding has_tail text n
unfolding SpellsWhole SpellsShortened SpellsBehind
spelled_by has_tail parts text n (inl e) s = inl (subst (λ (p : List Part). Spells p 0 text n) e s)
spelled_by has_tail parts text n (inr (left, right, l, e)) s = inr (left, omega (arith, l), (right, l, subst (λ (p : List Part). Spells p 0 text n) e s))

to : (text : List ℕ) (n : ℕ) → SpellsEnding false text n ⊎ SpellsEnding true text n → SpellsAddress6 text n
to text n (inl s) = spelled false text n s
to text n (inr s) = spelled true text n s

from : (text : List ℕ) (n : ℕ) → SpellsAddress6 text n → SpellsEnding false text n ⊎ SpellsEnding true text n
unfolding SpellsAddress6
from text n (parts, (false, form), s) = inl (spelled_by false parts text n form s)
from text n (parts, (true, form), s) = inr (spelled_by true parts text n form s)

pub read_by_all : (text : List ℕ) (a b c d : Result ℕ BadAddress) → IsRead (SpellsWhole false) text a
    → IsRead (SpellsShortened false) text b
    → IsRead (SpellsWhole true) text c → IsRead (SpellsShortened true) text d
    → IsRead SpellsAddress6 text (better_of (better_of a b) (better_of c d))
read_by_all text a b c d p q r s =
    read_along (λ t n. SpellsEnding false t n ⊎ SpellsEnding true t n) SpellsAddress6 text (better_of (better_of a b) (better_of c d)) to from
    (read_by_either (SpellsEnding false) (SpellsEnding true) text (better_of a b) (better_of c d) (read_by_either (SpellsWhole false) (SpellsShortened false) text a b p q)
    (read_by_either (SpellsWhole true) (SpellsShortened true) text c d r s))

-- the longest start of an address of either version
pub longer_version : (text : List ℕ) (a b : ℕ) → IsLongestStart IsAddressText text a
    → IsLongestStart IsAddress6Text text b → IsLongestStart IsAddrText text (max a b)
longer_version text a b p q =
    starts_along (λ t. IsAddressText t ⊎ IsAddress6Text t) IsAddrText text (max a b) (λ t w. either t w) (λ t w. version t w) (longer_start IsAddressText IsAddress6Text text a b p q)
  where
    either : (t : List ℕ) → IsAddressText t ⊎ IsAddress6Text t → IsAddrText t
    either t (inl w) = (V4 w.0, w.1)
    either t (inr w) = (V6 w.0, w.1)

    version : (t : List ℕ) → IsAddrText t → IsAddressText t ⊎ IsAddress6Text t
    version t (V4 n, s) = inl (n, s)
    version t (V6 n, s) = inr (n, s)
