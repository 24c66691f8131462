-- Spans that grow from piece to piece stay exact and apart.
use Rattle.std.proofs.Common.{◌≡◌, ℕ, suc, ◌<◌, ◌≤◌, ◌-◌, zero, List, [], ◌∷◌, ◌++◌, Bool, true, false, Option, Some, None, refl, ap, sym, ◌∙◌, arith}
use Rattle.std.specs.Prelude.{◌&&◌, ◌||◌, nat_le, nat_lt, IfSome}
use Rattle.std.specs.Option.{unwrap_or}
use Rattle.std.proofs.lemmas.Bool.{leb-true}
use Rattle.std.proofs.lemmas.Bool.Decides.{nat_tests}
use Rattle.reach_laws.specs.Decides.{Decides}
use Rattle.reach_sets.specs.Growth.{AreBefore, AreSoFar, closed, grown, in_open, no_spans, start}
use Rattle.reach_sets.specs.ReachSets.{AreSpansOf}
use Rattle.reach_sets.specs.Spans.{AreApart, in_spans, is_in}
use Rattle.reach_sets.specs.declared.growth.Growing.{Growing}
use Rattle.reach_sets.specs.declared.spans.Span.{Span}

-- Booleans
or-false : (b : Bool) → (b || false) ≡ b
or-false true = refl
or-false false = refl

or-assoc : (a b c : Bool) → ((a || b) || c) ≡ (a || (b || c))
or-assoc true b c = refl
or-assoc false b c = refl

decides-by : (b c : Bool) (P : Type 0) → b ≡ c → Decides c P → Decides b P
decides-by b c P e h = ((λ t. h.0 (sym e ∙ t)), (λ x. e ∙ h.1 x))

-- lists
in-append : (d : ℕ) (spans : List Span) (x : Span) → in_spans d (spans ++ x ∷ []) ≡ (in_spans d spans || is_in d x)
in-append d [] x = or-false (is_in d x)
in-append d (s ∷ spans) x = ap (λ b. is_in d s || b) (in-append d spans x) ∙ sym (or-assoc (is_in d s) (in_spans d spans) (is_in d x))

before-later : (n m : ℕ) → n ≤ m → (spans : List Span) → AreBefore n spans → AreBefore m spans
before-later n m le [] h = tt
before-later n m le (s ∷ spans) h = let first = h.0 in (omega (arith, first, le), before-later n m le spans h.1)

before-append : (n : ℕ) (spans : List Span) (x : Span) → AreBefore n spans → suc x.last < n → AreBefore n (spans ++ x ∷ [])
before-append n [] x h less = (less, tt)
before-append n (s ∷ spans) x h less = (h.0, before-append n spans x h.1 less)

apart-append : (spans : List Span) (x : Span) → AreApart spans → AreBefore x.first spans → x.first ≤ x.last → AreApart (spans ++ x ∷ [])
apart-append [] x h b le = le
apart-append (s ∷ []) x h b le = (h, b.0, le)
apart-append (s ∷ t ∷ spans) x h b le = (h.0, h.1, apart-append (t ∷ spans) x h.2 b.1 le)

-- what begins at a number or after it holds none below; what ends before holds none there
before-none : (n d : ℕ) (spans : List Span) → AreBefore n spans → n ≤ d → in_spans d spans ≡ false
before-none n d [] h le = refl
before-none n d (s ∷ spans) h le =
    let first = h.0 in
    let out : is_in d s ≡ false = grind (arith, nat_tests) in
    ap (λ b. b || in_spans d spans) out ∙ before-none n d spans h.1 le

or-true : (b : Bool) → (b || true) ≡ true
or-true true = refl
or-true false = refl

last-is : (at first : ℕ) → first < at → suc (at - 1) ≡ at
last-is zero first h = let bad : suc first ≡ 0 = omega (arith, h) in absurd cc
last-is (suc k) first h = omega arith

-- at the beginning
pub none-so-far : (P : ℕ → Type 0) → AreSoFar P 0 no_spans
none-so-far P = record { exact = λ d less. let bad : suc d ≡ 0 = omega (arith, less) in absurd cc; apart = tt; before = tt; begun = tt }

module _ (P : ℕ → Type 0) (spans : List Span) (at next : ℕ) (less : at < next) where
  abbrev Found : Option ℕ → ℕ → Type 0
  Found o d = Decides (in_spans d spans || in_open at d o) (P d)

  -- with a piece that is reached
  more-in : (o : Option ℕ) → ((d : ℕ) → d < at → Found o d) → AreApart spans → AreBefore (start at o) spans → IfSome o (λ first. first < at) → ((d : ℕ) → at ≤ d → d < next → P d) → AreSoFar P next (record { spans = spans; begun = Some (unwrap_or o at) })
  more-in None exact apart before begun all = record { exact = λ d below. go d below (nat_le at d) refl; apart = apart; before = before; begun = less }
    where
      go : (d : ℕ) → d < next → (b : Bool) → nat_le at d ≡ b → Decides (in_spans d spans || (nat_le at d && nat_lt d next)) (P d)
      go d below true e =
          let from : at ≤ d = leb-true at d e in
          let inside : (nat_le at d && nat_lt d next) ≡ true = grind (arith, nat_tests) in
          ((λ t. all d from below), (λ p. ap (λ b. in_spans d spans || b) inside ∙ or-true (in_spans d spans)))
      go d below false e =
          let under : d < at = grind (arith, nat_tests) in
          decides-by (in_spans d spans || (nat_le at d && nat_lt d next)) (in_spans d spans || false) (P d) (ap (λ b. in_spans d spans || (b && nat_lt d next)) e) (exact d under)
  more-in (Some first) exact apart before begun all = record { exact = λ d below. go d below (nat_le at d) refl; apart = apart; before = before; begun = under }
    where
      under : first < next
      under = omega (arith, begun, less)

      go : (d : ℕ) → d < next → (b : Bool) → nat_le at d ≡ b → Decides (in_spans d spans || (nat_le first d && nat_lt d next)) (P d)
      go d below true e =
          let from : at ≤ d = leb-true at d e in
          let inside : (nat_le first d && nat_lt d next) ≡ true = grind (arith, nat_tests) in
          ((λ t. all d from below), (λ p. ap (λ b. in_spans d spans || b) inside ∙ or-true (in_spans d spans)))
      go d below false e =
          let short : d < at = grind (arith, nat_tests) in
          let same : (nat_le first d && nat_lt d next) ≡ (nat_le first d && nat_lt d at) = grind (arith, nat_tests) in
          decides-by (in_spans d spans || (nat_le first d && nat_lt d next)) (in_spans d spans || (nat_le first d && nat_lt d at)) (P d) (ap (λ b. in_spans d spans || b) same) (exact d short)

  -- with a piece that isn't
  more-out : (o : Option ℕ) → ((d : ℕ) → d < at → Found o d) → AreApart spans → AreBefore (start at o) spans → IfSome o (λ first. first < at) → ((d : ℕ) → at ≤ d → d < next → P d → ⊥) → AreSoFar P next (record { spans = closed spans at o; begun = None })
  more-out None exact apart before begun none = record { exact = λ d below. go d below (nat_le at d) refl; apart = apart; before = before-later at next (omega (arith, less)) spans before; begun = tt }
    where
      go : (d : ℕ) → d < next → (b : Bool) → nat_le at d ≡ b → Decides (in_spans d spans || false) (P d)
      go d below true e =
          let from : at ≤ d = leb-true at d e in
          let out : (in_spans d spans || false) ≡ false = or-false (in_spans d spans) ∙ before-none at d spans before from in
          ((λ t. let bad : false ≡ true = sym out ∙ t in absurd cc), (λ p. absurd (none d from below p)))
      go d below false e = exact d (grind (arith, nat_tests))
  more-out (Some first) exact apart before begun none = record { exact = λ d below. go d below (nat_le at d) refl; apart = apart-append spans x apart before short; before = before-append next spans x (before-later first next (omega (arith, begun, less)) spans before) ends; begun = tt }
    where
      x : Span
      x = record { first = first; last = at - 1 }

      ending : suc (at - 1) ≡ at
      ending = last-is at first begun

      short : first ≤ at - 1
      short = omega (arith, begun, ending)

      ends : suc (at - 1) < next
      ends = omega (arith, ending, less)

      found : (d : ℕ) → (in_spans d (spans ++ x ∷ []) || false) ≡ (in_spans d spans || (nat_le first d && nat_le d (at - 1)))
      found d = or-false (in_spans d (spans ++ x ∷ [])) ∙ in-append d spans x

      go : (d : ℕ) → d < next → (b : Bool) → nat_le at d ≡ b → Decides (in_spans d (spans ++ x ∷ []) || false) (P d)
      go d below true e =
          let from : at ≤ d = leb-true at d e in
          let early : first ≤ d = omega (arith, begun, from) in
          let outside : (nat_le first d && nat_le d (at - 1)) ≡ false = grind (arith, nat_tests, ending) in
          let out : (in_spans d (spans ++ x ∷ []) || false) ≡ false = found d ∙ ap (λ b. in_spans d spans || b) outside ∙ or-false (in_spans d spans) ∙ before-none first d spans before early in
          ((λ t. let bad : false ≡ true = sym out ∙ t in absurd cc), (λ p. absurd (none d from below p)))
      go d below false e =
          let under : d < at = grind (arith, nat_tests) in
          let same : (nat_le first d && nat_le d (at - 1)) ≡ (nat_le first d && nat_lt d at) = grind (arith, nat_tests, ending) in
          decides-by (in_spans d (spans ++ x ∷ []) || false) (in_spans d spans || (nat_le first d && nat_lt d at)) (P d) (found d ∙ ap (λ b. in_spans d spans || b) same) (exact d under)

-- one Boolean decides a piece
pub grow : (P : ℕ → Type 0) (g : Growing) (at next : ℕ) (b : Bool) → at < next → AreSoFar P at g → ((d : ℕ) → at ≤ d → d < next → Decides b (P d)) → AreSoFar P next (grown g at b)
grow P g at next true less so_far decides = more-in P g.spans at next less g.begun so_far.exact so_far.apart so_far.before so_far.begun (λ d from below. (decides d from below).0 refl)
grow P g at next false less so_far decides =
    more-out P g.spans at next less g.begun so_far.exact so_far.apart so_far.before so_far.begun (λ d from below p. let bad : false ≡ true = (decides d from below).1 p in absurd cc)

-- at the end, above which nothing is so
before-out : (n : ℕ) (spans : List Span) → AreBefore n spans → (d : ℕ) → n ≤ d → in_spans d spans ≡ false
before-out n spans h d le = before-none n d spans h le

pub whole : (P : ℕ → Type 0) (g : Growing) (end : ℕ) → ((d : ℕ) → P d → d < end) → AreSoFar P end g → AreSpansOf P (grown g end false).spans
whole P g end bound so_far = record { exact = λ d. go d (nat_le (suc end) d) refl; apart = after.apart }
  where
    after : AreSoFar P (suc end) (grown g end false)
    after = grow P g end (suc end) false (omega arith) so_far (λ d from below. ((λ t. let bad : false ≡ true = t in absurd cc), (λ p. let under = bound d p in absurd (omega (arith, under, from)))))

    go : (d : ℕ) → (b : Bool) → nat_le (suc end) d ≡ b → Decides (in_spans d (grown g end false).spans) (P d)
    go d true e =
        let from : suc end ≤ d = leb-true (suc end) d e in
        let out : in_spans d (grown g end false).spans ≡ false = before-out (suc end) (grown g end false).spans after.before d from in
        ((λ t. let bad : false ≡ true = sym out ∙ t in absurd cc), (λ p. let under = bound d p in absurd (omega (arith, under, from))))
    go d false e =
        let under : d < suc end = grind (arith, nat_tests) in
        decides-by (in_spans d (grown g end false).spans) (in_spans d (grown g end false).spans || false) (P d) (sym (or-false (in_spans d (grown g end false).spans))) (after.exact d under)
