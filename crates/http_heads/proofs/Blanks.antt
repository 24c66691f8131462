-- Empty lines that come first.
use Rattle.std.proofs.Common.{◌≡◌, ◌≢◌, ℕ, ◌+◌, ◌≤◌, ◌<◌, ◌==◌, ◌&&◌, Bool, true, false, List, [], ◌∷◌, ◌++◌, length, refl, sym, ap, ap₂, subst, ◌∙◌, arith, slice_index_or, if◌then◌else◌}
use Rattle.std.proofs.lemmas.Bool.{eqb-true}
use Rattle.httparse.specs.Grammar.{LineEnd, crlf, lf, print_blank}
use Rattle.http_heads.proofs.LineFeeds.{lf-append}
use Rattle.http_heads.specs.Lines.{chosen, lf_one, line_feeds, behind_blank}

pub behind_lf : (bytes : List ℕ) → behind_blank (10 ∷ bytes) ≡ behind_blank bytes
behind_lf [] = refl
behind_lf (b ∷ bytes) = refl

pub behind_crlf : (bytes : List ℕ) → behind_blank (13 ∷ (10 ∷ bytes)) ≡ behind_blank bytes
behind_crlf bytes = refl

test_false : (a n : ℕ) → a ≢ n → (a == n) ≡ false
test_false a n differ = by (a == n) refl
  where
    by : (t : Bool) → (a == n) ≡ t → t ≡ false
    by false e = refl
    by true e = absurd (differ (eqb-true a n e))

-- a first byte that is no line feed, and begins no line end, stays
pub behind_other : (a : ℕ) (bytes : List ℕ) → a ≢ 10 → (a ≡ 13 → slice_index_or bytes 0 0 ≢ 10) → behind_blank (a ∷ bytes) ≡ a ∷ bytes
behind_other a [] one two = ap (λ t. if t then [] else a ∷ []) (test_false a 10 one)
behind_other a (b ∷ bytes) one two = ap (λ t. if t then behind_blank (b ∷ bytes) else (if (a == 13) && (b == 10) then behind_blank bytes else a ∷ (b ∷ bytes))) (test_false a 10 one) ∙ by (a == 13) refl (b == 10) refl
  where
    by : (s : Bool) → (a == 13) ≡ s → (t : Bool) → (b == 10) ≡ t → (if s && t then behind_blank bytes else a ∷ (b ∷ bytes)) ≡ a ∷ (b ∷ bytes)
    by false e t f = refl
    by true e false f = refl
    by true e true f = absurd (two (eqb-true a 13 e) (eqb-true b 10 f))

pub behind_token : (a : ℕ) (bytes : List ℕ) → a ≢ 10 → a ≢ 13 → behind_blank (a ∷ bytes) ≡ a ∷ bytes
behind_token a bytes one two = behind_other a bytes one (λ e. absurd (two e))

-- the empty lines are passed
pub behind_blanks : (ends : List LineEnd) (a : ℕ) (bytes : List ℕ) → a ≢ 10 → a ≢ 13 → behind_blank (print_blank ends ++ a ∷ bytes) ≡ a ∷ bytes
behind_blanks [] a bytes one two = behind_token a bytes one two
behind_blanks (crlf ∷ ends) a bytes one two = behind_crlf (print_blank ends ++ a ∷ bytes) ∙ behind_blanks ends a bytes one two
behind_blanks (lf ∷ ends) a bytes one two = behind_lf (print_blank ends ++ a ∷ bytes) ∙ behind_blanks ends a bytes one two

last_one : (b : ℕ) (t : Bool) → line_feeds (if t then [] else b ∷ []) ≤ 0 + lf_one b
last_one b true = omega arith
last_one b false = omega arith

-- one more byte adds at most a line feed
pub behind_more : (bytes : List ℕ) (b : ℕ) → line_feeds (behind_blank (bytes ++ b ∷ [])) ≤ line_feeds (behind_blank bytes) + lf_one b
behind_more [] b = last_one b (b == 10)
behind_more (a ∷ []) b = by (a == 10) ((a == 13) && (b == 10))
  where
    by : (s u : Bool) → line_feeds (if s then (if b == 10 then [] else b ∷ []) else (if u then [] else a ∷ (b ∷ []))) ≤ line_feeds (if s then [] else a ∷ []) + lf_one b
    by true u = last_one b (b == 10)
    by false true = omega arith
    by false false = omega arith
behind_more (a ∷ (c ∷ bytes)) b = by (behind_more (c ∷ bytes) b) (behind_more bytes b) (a == 10) ((a == 13) && (c == 10))
  where
    by : line_feeds (behind_blank (c ∷ (bytes ++ b ∷ []))) ≤ line_feeds (behind_blank (c ∷ bytes)) + lf_one b
        → line_feeds (behind_blank (bytes ++ b ∷ [])) ≤ line_feeds (behind_blank bytes) + lf_one b → (s u : Bool)
        → line_feeds (if s then behind_blank (c ∷ (bytes ++ b ∷ [])) else (if u then behind_blank (bytes ++ b ∷ []) else a ∷ (c ∷ (bytes ++ b ∷ []))))
        ≤ line_feeds (if s then behind_blank (c ∷ bytes) else (if u then behind_blank bytes else a ∷ (c ∷ bytes))) + lf_one b
    by one two true u = one
    by one two false true = two
    by one two false false = omega (arith, lf-append bytes (b ∷ []))

-- empty lines are passed, whatever follows
pub behind_past : (front bytes : List ℕ) → behind_blank front ≡ [] → behind_blank (front ++ bytes) ≡ behind_blank bytes
behind_past [] bytes none = refl
behind_past (a ∷ []) bytes none = by (a == 10) refl none
  where
    by : (t : Bool) → (a == 10) ≡ t → (if t then [] else a ∷ []) ≡ [] → behind_blank (a ∷ bytes) ≡ behind_blank bytes
    by true e none = subst (λ x. behind_blank (x ∷ bytes) ≡ behind_blank bytes) (sym (eqb-true a 10 e)) (behind_lf bytes)
    by false e none = absurd (cc)
behind_past (a ∷ (b ∷ front)) bytes none = by (behind_past (b ∷ front) bytes) (behind_past front bytes) (a == 10) ((a == 13) && (b == 10)) none
  where
    by : (behind_blank (b ∷ front) ≡ [] → behind_blank (b ∷ (front ++ bytes)) ≡ behind_blank bytes)
        → (behind_blank front ≡ [] → behind_blank (front ++ bytes) ≡ behind_blank bytes) → (s u : Bool)
        → (if s then behind_blank (b ∷ front) else (if u then behind_blank front else a ∷ (b ∷ front))) ≡ []
        → (if s then behind_blank (b ∷ (front ++ bytes)) else (if u then behind_blank (front ++ bytes) else a ∷ (b ∷ (front ++ bytes)))) ≡ behind_blank bytes
    by one two true u none = one none
    by one two false true none = two none
    by one two false false none = absurd (cc)

-- what is behind the empty lines isn't longer
pub behind_shorter : (bytes : List ℕ) → length (behind_blank bytes) ≤ length bytes
behind_shorter [] = omega arith
behind_shorter (a ∷ []) = by (a == 10)
  where
    by : (t : Bool) → length (if t then [] else a ∷ []) ≤ 1
    by true = omega arith
    by false = omega arith
behind_shorter (a ∷ (b ∷ bytes)) = by (behind_shorter (b ∷ bytes)) (behind_shorter bytes) (a == 10) ((a == 13) && (b == 10))
  where
    by : length (behind_blank (b ∷ bytes)) ≤ length (b ∷ bytes) → length (behind_blank bytes) ≤ length bytes → (s u : Bool)
        → length (if s then behind_blank (b ∷ bytes) else (if u then behind_blank bytes else a ∷ (b ∷ bytes))) ≤ length (a ∷ (b ∷ bytes))
    by one two true u = omega (arith, one)
    by one two false true = omega (arith, two)
    by one two false false = omega arith

-- in a front of empty lines no other line ends
pub blank_front : (front bytes : List ℕ) → behind_blank (front ++ bytes) ≡ [] → line_feeds (behind_blank front) ≡ 0
blank_front [] bytes none = refl
blank_front (a ∷ []) bytes none = by (a == 10) refl
  where
    by : (t : Bool) → (a == 10) ≡ t → line_feeds (if t then [] else a ∷ []) ≡ 0
    by true e = refl
    by false e = ap (λ s. chosen s + 0) e
blank_front (a ∷ (b ∷ front)) bytes none = by (blank_front (b ∷ front) bytes) (blank_front front bytes) (a == 10) ((a == 13) && (b == 10)) none
  where
    by : (behind_blank (b ∷ (front ++ bytes)) ≡ [] → line_feeds (behind_blank (b ∷ front)) ≡ 0)
        → (behind_blank (front ++ bytes) ≡ [] → line_feeds (behind_blank front) ≡ 0) → (s u : Bool)
        → (if s then behind_blank (b ∷ (front ++ bytes)) else (if u then behind_blank (front ++ bytes) else a ∷ (b ∷ (front ++ bytes)))) ≡ []
        → line_feeds (if s then behind_blank (b ∷ front) else (if u then behind_blank front else a ∷ (b ∷ front))) ≡ 0
    by one two true u none = one none
    by one two false true none = two none
    by one two false false none = absurd (cc)

-- the last byte, if there is one, is a line feed
abbrev pub LastIsFeed : List ℕ → Type 0
LastIsFeed [] = Unit {0}
LastIsFeed (a ∷ []) = a ≡ 10
LastIsFeed (a ∷ (b ∷ bytes)) = LastIsFeed (b ∷ bytes)

pub last_feed : (front : List ℕ) → LastIsFeed (front ++ 10 ∷ [])
last_feed [] = refl
last_feed (a ∷ []) = refl
last_feed (a ∷ (b ∷ front)) = last_feed (b ∷ front)

last_rest : (b : ℕ) (bytes : List ℕ) → LastIsFeed (b ∷ bytes) → LastIsFeed bytes
last_rest b [] h = tt
last_rest b (c ∷ bytes) h = h

feed_counts : (a : ℕ) (bytes : List ℕ) → LastIsFeed (a ∷ bytes) → 0 < line_feeds (a ∷ bytes)
feed_counts a [] h = subst (λ x. 0 < line_feeds (x ∷ [])) (sym h) (omega arith)
feed_counts a (b ∷ bytes) h = omega (arith, feed_counts b bytes h)

-- nothing but empty lines
pub all_blank : (bytes : List ℕ) → line_feeds (behind_blank bytes) ≡ 0 → LastIsFeed bytes → (ends : List LineEnd) × (bytes ≡ print_blank ends)
all_blank [] none last = ([], refl)
all_blank (a ∷ []) none last = (lf ∷ [], ap (λ x. x ∷ []) last)
all_blank (a ∷ (b ∷ bytes)) none last = by (λ h. all_blank (b ∷ bytes) h last) (λ h. all_blank bytes h (last_rest b bytes last)) (a == 10) refl (a == 13) refl (b == 10) refl none
  where
    by : (line_feeds (behind_blank (b ∷ bytes)) ≡ 0 → (ends : List LineEnd) × (b ∷ bytes ≡ print_blank ends))
        → (line_feeds (behind_blank bytes) ≡ 0 → (ends : List LineEnd) × (bytes ≡ print_blank ends))
        → (s : Bool) → (a == 10) ≡ s → (t : Bool) → (a == 13) ≡ t → (u : Bool) → (b == 10) ≡ u
        → line_feeds (if s then behind_blank (b ∷ bytes) else (if t && u then behind_blank bytes else a ∷ (b ∷ bytes))) ≡ 0
        → (ends : List LineEnd) × (a ∷ (b ∷ bytes) ≡ print_blank ends)
    by one two true e t f u g h = let r = one h in (lf ∷ r.0, ap₂ (λ x l. x ∷ l) (eqb-true a 10 e) r.1)
    by one two false e true f true g h = let r = two h in (crlf ∷ r.0, ap₂ (λ x l. x ∷ l) (eqb-true a 13 f) (ap₂ (λ x l. x ∷ l) (eqb-true b 10 g) r.1))
    by one two false e true f false g h = absurd (omega (arith, feed_counts b bytes last, h))
    by one two false e false f u g h = absurd (omega (arith, feed_counts b bytes last, h))
