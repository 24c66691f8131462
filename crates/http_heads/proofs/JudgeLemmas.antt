-- What one prefix says.
use Rattle.std.proofs.Common.{zero, suc, ◌≡◌, ◌≢◌, ℕ, ◌+◌, ◌≤◌, ◌<◌, ◌⊎◌, inl, inr, Bool, false, List, [], ◌∷◌, ◌++◌, length, drop, take, refl, sym, ap, ap₂, subst, ◌∙◌, arith, slice_index_or, append_assoc, append-nil, length-append, IsTrue, true≢false}
use Rattle.std.proofs.lemmas.List.Elements.{All-head}
use Rattle.std.specs.List.{flat_map}
use Rattle.std.proofs.Math.Seq.{take-append_seam, get_or-append_seam, drop-length}
use Rattle.std.proofs.lemmas.List.{take_more}
use Rattle.httparse.specs.Grammar.{LineEnd, crlf, lf, print_end, print_blank, print_version, print_section, print_field, is_token_byte, is_uri_byte, IsToken, AllPass, RequestHead, ReadsRequest, IsRequestHead, print_request, NeverHasRequest, EndsInTarget, MayBecomeRequest}
use Rattle.httparse.specs.Spans.{RequestExceeds}
use Rattle.httparse.proofs.GrammarLemmas.{print_request-append}
use Rattle.http_heads.specs.Lines.{lf_one, line_feeds, behind_blank}
use Rattle.http_heads.specs.Heads.{IsNoHead, CanFollow, IsLarge, IsOpen, IsJudged, IsInFirstLine}
use Rattle.http_heads.proofs.LineFeeds.{lf-append, lf-other, lf-none, lf-after, lf-request, lf-blank, token_refuses}
use Rattle.http_heads.proofs.Blanks.{behind_blanks, all_blank, last_feed, LastIsFeed}

one_more : (xs : List ℕ) (i : ℕ) → i < length xs → line_feeds (take (i + 1) xs) ≡ line_feeds (take i xs) + lf_one (slice_index_or xs i 0)
one_more xs i lt = ap line_feeds (take_more xs i 0 lt) ∙ lf-append (take i xs) (slice_index_or xs i 0 ∷ []) ∙ omega arith

pub one_feed : (xs : List ℕ) (i : ℕ) → i < length xs → slice_index_or xs i 0 ≡ 10 → line_feeds (take (i + 1) xs) ≡ line_feeds (take i xs) + 1
one_feed xs i lt e = one_more xs i lt ∙ ap (λ x. line_feeds (take i xs) + lf_one x) e

pub no_feed : (xs : List ℕ) (i : ℕ) → i < length xs → slice_index_or xs i 0 ≢ 10 → line_feeds (take (i + 1) xs) ≡ line_feeds (take i xs)
no_feed xs i lt e = one_more xs i lt ∙ ap (λ n. line_feeds (take i xs) + n) (lf-other (slice_index_or xs i 0) e) ∙ omega arith

-- a head ends with a line feed
ends_so : (start fields : List ℕ) (e : LineEnd) → (front : List ℕ) × (start ++ (fields ++ print_end e) ≡ front ++ 10 ∷ [])
ends_so start fields lf = (start ++ fields, sym (append_assoc start fields (10 ∷ [])))
ends_so start fields crlf = ((start ++ fields) ++ 13 ∷ [], sym (append_assoc start fields (13 ∷ (10 ∷ []))) ∙ sym (append_assoc (start ++ fields) (13 ∷ []) (10 ∷ [])))

pub head_ends : (h : RequestHead) → (front : List ℕ) × (print_request h ≡ front ++ 10 ∷ [])
unfolding print_request
head_ends h = ends_so (print_blank h.blank ++ h.method ++ 32 ∷ h.target ++ 32 ∷ print_version h.minor ++ print_end h.line_end) (flat_map print_field h.fields) h.last

-- a head that the bytes begin with is all of them, where no judged prefix before is one
pub is_whole : (p : List ℕ) (h : RequestHead) (len : ℕ) → ReadsRequest p h (drop len p) → len ≡ length (print_request h) → length p ≤ 16384
    → ((k : ℕ) → k < length p → IsJudged p k → IsOpen (take k p)) → len < length p → ⊥
is_whole p h len reads size short first lt =
    let front : take len p ≡ print_request h = ap₂ (λ n l. take n l) size reads.1 ∙ take-append_seam (print_request h) (drop len p) in
    let ends = head_ends h in
    let parts : p ≡ ends.0 ++ 10 ∷ drop len p = reads.1 ∙ ap (λ l. l ++ drop len p) ends.1 ∙ append_assoc ends.0 (10 ∷ []) (drop len p) in
    let feed : slice_index_or p (length ends.0) 0 ≡ 10 = ap (λ l. slice_index_or l (length ends.0) 0) parts ∙ get_or-append_seam ends.0 10 (drop len p) 0 in
    let place : len ≡ length ends.0 + 1 = size ∙ ap length ends.1 ∙ length-append ends.0 (10 ∷ []) in
    (first len lt (record { fits = omega (arith, lt); short = omega (arith, lt, short); ends = inr (length ends.0, place, feed) })).no_head h (reads.0, front ∙ sym (append-nil (print_request h)))

-- the last byte of a list, seen from the front
split_last : (b : List ℕ) (x : ℕ) (y a : List ℕ) → x ≢ 10 → a ++ 10 ∷ [] ≡ b ++ x ∷ y → (z : List ℕ) × (a ≡ b ++ x ∷ z) × (y ≡ z ++ 10 ∷ [])
split_last [] x y [] differ e = absurd (differ (cc))
split_last [] x y (c ∷ a) differ e = (a, cc, cc)
split_last (d ∷ []) x y [] differ e = absurd (cc)
split_last (d ∷ (f ∷ b)) x y [] differ e = absurd (cc)
split_last (d ∷ b) x y (c ∷ a) differ e = let rest : a ++ 10 ∷ [] ≡ b ++ x ∷ y = cc in let r = split_last b x y a differ rest in let head : c ≡ d = cc in (r.0, ap₂ (λ h l. h ∷ l) head r.1, r.2)

-- more than 65 whole field lines are more than 66 lines
too_many_lines : (blank : List LineEnd) (x : ℕ) (y front rest : List ℕ) → x ≢ 10 → x ≢ 13 → front ++ 10 ∷ [] ≡ print_blank blank ++ x ∷ y → 67 < line_feeds (x ∷ y)
    → 66 < line_feeds (behind_blank (front ++ rest))
too_many_lines blank x y front rest one two e many =
    let r = split_last (print_blank blank) x y front one e in
    let parts : front ++ rest ≡ print_blank blank ++ x ∷ (r.0 ++ rest) = ap (λ l. l ++ rest) r.1 ∙ append_assoc (print_blank blank) (x ∷ r.0) rest in
    let behind : behind_blank (front ++ rest) ≡ x ∷ (r.0 ++ rest) = ap behind_blank parts ∙ behind_blanks blank x (r.0 ++ rest) one two in
    omega (arith, many, ap line_feeds behind, lf-append r.0 rest, ap line_feeds r.2, lf-append r.0 (10 ∷ []))

cr_refuses : is_token_byte 13 ≡ false
unfolding is_token_byte
cr_refuses = refl

not_byte : (test : ℕ → Bool) (b n : ℕ) → test n ≡ false → IsTrue (test b) → b ≢ n
not_byte test b n refused passed e = true≢false (sym passed ∙ ap test e ∙ refused)

-- a token begins with a byte that begins no line end
pub token_first : (m : List ℕ) → IsToken m → (x : ℕ) × (y : List ℕ) × (m ≡ x ∷ y) × (x ≢ 10) × (x ≢ 13)
token_first [] t = absurd (omega (arith, t.0))
token_first (x ∷ y) t =
    let passes : IsTrue (is_token_byte x) = All-head (λ b. IsTrue (is_token_byte b)) x y t.1 in
    (x, y, refl, not_byte is_token_byte x 10 token_refuses passes, not_byte is_token_byte x 13 cr_refuses passes)

abbrev behind_method : RequestHead → List ℕ
behind_method h = 32 ∷ (h.target ++ 32 ∷ (print_version h.minor ++ (print_end h.line_end ++ (print_section h.fields h.last ++ []))))

printed : (h : RequestHead) → print_request h ++ [] ≡ print_blank h.blank ++ (h.method ++ behind_method h)
printed h = print_request-append h []

pub not_too_many : (p : List ℕ) → line_feeds (behind_blank p) ≤ 66 → RequestExceeds 65 p → ⊥
not_too_many p few e =
    let h = e.3 in
    let t = token_first h.method e.4.0.method in
    let tail = t.1 ++ behind_method h in
    let shape : print_request h ++ [] ≡ print_blank h.blank ++ t.0 ∷ tail = printed h ∙ ap (λ m. print_blank h.blank ++ (m ++ behind_method h)) t.2 in
    let whole : e.0 ++ 10 ∷ [] ≡ print_blank h.blank ++ t.0 ∷ tail = e.4.1 ∙ shape in
    let count : line_feeds (print_blank h.blank ++ t.0 ∷ tail) ≡ length h.blank + length h.fields + 2 = ap line_feeds (sym shape) ∙ ap line_feeds (append-nil (print_request h)) ∙ lf-request h e.4.0 in
    let many : 67 < line_feeds (t.0 ∷ tail) = omega (arith, count, lf-append (print_blank h.blank) (t.0 ∷ tail), lf-blank h.blank, e.5) in
    let above : 66 < line_feeds (behind_blank (e.0 ++ e.1)) = too_many_lines h.blank t.0 tail e.0 e.1 t.3 t.4 whole many in
    omega (arith, above, few, ap (λ l. line_feeds (behind_blank l)) e.2)

-- a head has a whole line behind the empty ones
pub head_has_line : (p : List ℕ) (h : RequestHead) → ReadsRequest p h [] → 0 < line_feeds (behind_blank p)
head_has_line p h reads =
    let t = token_first h.method reads.0.method in
    let tail = t.1 ++ behind_method h in
    let shape : p ≡ print_blank h.blank ++ t.0 ∷ tail = reads.1 ∙ printed h ∙ ap (λ m. print_blank h.blank ++ (m ++ behind_method h)) t.2 in
    let all : line_feeds p ≡ length h.blank + length h.fields + 2 = ap line_feeds (reads.1 ∙ append-nil (print_request h)) ∙ lf-request h reads.0 in
    let behind : behind_blank p ≡ t.0 ∷ tail = ap behind_blank shape ∙ behind_blanks h.blank t.0 tail t.3 t.4 in
    omega (arith, all, ap line_feeds shape, lf-append (print_blank h.blank) (t.0 ∷ tail), lf-blank h.blank, ap line_feeds behind)

-- what has only its first line, and fewer bytes than a head may have, says nothing
pub first_line_open : (p : List ℕ) → IsInFirstLine p → length p < 16384 → IsOpen p
first_line_open p lines short = record {
  no_head = λ h reads. omega (arith, lines, head_has_line p h reads);
  follow = inr lines;
  small = λ large. elim large [ inl long ↦ omega (arith, long, short) | inr many ↦ omega (arith, many, lines) ];
}

in_target : (p : List ℕ) → EndsInTarget p → IsInFirstLine p
in_target p t =
    let first = token_first t.1 t.3 in
    let parts : p ≡ print_blank t.0 ++ (t.1 ++ 32 ∷ t.2) = t.5 ∙ append_assoc (print_blank t.0) t.1 (32 ∷ t.2) in
    let shape : p ≡ print_blank t.0 ++ first.0 ∷ (first.1 ++ 32 ∷ t.2) = parts ∙ ap (λ m. print_blank t.0 ++ (m ++ 32 ∷ t.2)) first.2 in
    let behind : behind_blank p ≡ t.1 ++ 32 ∷ t.2 = ap behind_blank shape ∙ behind_blanks t.0 first.0 (first.1 ++ 32 ∷ t.2) first.3 first.4 ∙ ap (λ m. m ++ 32 ∷ t.2) (sym first.2) in
    ap line_feeds behind ∙ lf-append t.1 (32 ∷ t.2) ∙ ap₂ (λ m n. m + n) (lf-none is_token_byte token_refuses t.1 t.3.1) (lf-after 32 t.2 refl (lf-none is_uri_byte refl t.2 t.4))

pub can_follow : (p : List ℕ) → MayBecomeRequest p → CanFollow p
can_follow p h = elim h [ inl f ↦ inl f | inr t ↦ inr (in_target p t) ]

abbrev simple : List LineEnd → RequestHead
simple ends = record { blank = ends; method = 71 ∷ []; target = 47 ∷ []; minor = 1; line_end = lf; fields = []; last = lf }

all_one : (test : ℕ → Bool) (x : ℕ) → IsTrue (test x) → AllPass test (x ∷ [])
all_one test x h zero d lt = h
all_one test x h (suc k) d lt = absurd (omega (arith, lt))

token_g : IsTrue (is_token_byte 71)
unfolding is_token_byte
token_g = refl

simple_is : (ends : List LineEnd) → IsRequestHead (simple ends)
unfolding lib.Utf8.encode
simple_is ends = record {
  method = (omega arith, all_one is_token_byte 71 token_g);
  target = (omega arith, all_one is_uri_byte 47 refl);
  target_text = (47 ∷ [], (refl, refl));
  minor = omega arith;
  fields = λ k d lt. absurd (omega (arith, lt));
}

-- empty lines alone can be followed
pub blank_may : (p : List ℕ) → NeverHasRequest p → (ends : List LineEnd) → p ≡ print_blank ends → ⊥
blank_may p never ends e = never (71 ∷ behind_method (simple ends)) (simple ends) [] (simple_is ends, ap (λ l. l ++ 71 ∷ behind_method (simple ends)) e ∙ sym (printed (simple ends)))

-- a head at the front is the whole prefix
pub whole_head : (p : List ℕ) (h : RequestHead) (len : ℕ) → ReadsRequest p h (drop len p) → len ≡ length (print_request h) → len ≤ length p → length p ≤ 16384
    → ((k : ℕ) → k < length p → IsJudged p k → IsOpen (take k p)) → ReadsRequest p h []
whole_head p h len reads size within short first =
    let notless = is_whole p h len reads size short first in
    let same : len ≡ length p = omega (arith, notless, within) in
    (reads.0, reads.1 ∙ ap (λ l. print_request h ++ l) (ap (λ n. drop n p) same ∙ drop-length p))

-- never a head, now or later
pub never_head : (p : List ℕ) → NeverHasRequest p → IsNoHead p
never_head p never h reads = never [] h [] (subst (λ l. ReadsRequest l h []) (sym (append-nil p)) reads)

pub never_follow : (p : List ℕ) → NeverHasRequest p → (line_feeds (behind_blank p) ≡ 0 → ⊥) → CanFollow p → ⊥
never_follow p never lines follow = elim follow [ inl f ↦ never f.0 f.1 [] f.2 | inr t ↦ lines t ]

-- a first line that is not whole is as long as a head may be
pub first_line_large : (p : List ℕ) → NeverHasRequest p → line_feeds (behind_blank p) ≡ 0 → (length p ≡ 16384) ⊎ ((front : List ℕ) × (p ≡ front ++ 10 ∷ [])) → IsLarge p
first_line_large p never lines (inl size) = inl (omega (arith, size))
first_line_large p never lines (inr ends) =
    let blank = all_blank p lines (subst LastIsFeed (sym ends.1) (last_feed ends.0)) in absurd (blank_may p never blank.0 blank.1)
