use Rattle.std.proofs.Common.{◌≡◌, ◌≢◌, ℕ, ◌+◌, ◌≤◌, ◌==◌, Bool, true, false, List, [], ◌∷◌, ◌++◌, length, All, IsTrue, refl, sym, ap, ap₂, ◌∙◌, true≢false, arith, codes}
use Rattle.std.specs.List.{flat_map}
use Rattle.std.proofs.lemmas.Bool.{eqb-true}
use Rattle.std.proofs.lemmas.List.Elements.{All-head, All-tail}
use Rattle.httparse.specs.Grammar.{is_token_byte, is_uri_byte, is_value_byte, AllPass, LineEnd, crlf, lf, print_end, print_blank, print_version, Field, print_field, IsField, print_section, RequestHead, print_request, IsRequestHead}
use Rattle.httparse.specs.Spans.{RequestExceeds}
use Rattle.http_heads.specs.Lines.{chosen, lf_one, line_feeds}

pub lf-append : (a b : List ℕ) → line_feeds (a ++ b) ≡ line_feeds a + line_feeds b
lf-append [] b = omega arith
lf-append (x ∷ a) b = let e : line_feeds (a ++ b) ≡ line_feeds a + line_feeds b = lf-append a b in ap (λ n. lf_one x + n) e ∙ omega arith

pub lf-other : (b : ℕ) → b ≢ 10 → lf_one b ≡ 0
lf-other b differ = by (b == 10) refl
  where
    by : (t : Bool) → (b == 10) ≡ t → chosen t ≡ 0
    by false e = refl
    by true e = absurd (differ (eqb-true b 10 e))

-- bytes of a class without the line feed
pub lf-none : (test : ℕ → Bool) → test 10 ≡ false → (bytes : List ℕ) → AllPass test bytes → line_feeds bytes ≡ 0
lf-none test refused [] each = refl
lf-none test refused (b ∷ bytes) each =
    ap₂ (λ m n. m + n) (lf-other b (λ e. true≢false (sym (All-head (λ x. IsTrue (test x)) b bytes each) ∙ ap test e ∙ refused)))
    (lf-none test refused bytes (All-tail (λ x. IsTrue (test x)) b bytes each))

pub lf-end : (e : LineEnd) → line_feeds (print_end e) ≡ 1
lf-end crlf = refl
lf-end lf = refl

pub lf-blank : (es : List LineEnd) → line_feeds (print_blank es) ≡ length es
lf-blank [] = refl
lf-blank (e ∷ es) = lf-append (print_end e) (print_blank es) ∙ ap₂ (λ m n. m + n) (lf-end e) (lf-blank es) ∙ omega arith

pub token_refuses : is_token_byte 10 ≡ false
unfolding is_token_byte
token_refuses = refl

-- one more byte that is none
pub lf-after : (b : ℕ) (bytes : List ℕ) → lf_one b ≡ 0 → line_feeds bytes ≡ 0 → line_feeds (b ∷ bytes) ≡ 0
lf-after b bytes none rest = ap₂ (λ m n. m + n) none rest

lf-field : (f : Field) → IsField f → line_feeds (print_field f) ≡ 1
lf-field f is =
    lf-append (f.name ++ 58 ∷ f.raw) (print_end f.end)
    ∙ ap₂ (λ m n. m + n) (lf-append f.name (58 ∷ f.raw) ∙ ap₂ (λ m n. m + n) (lf-none is_token_byte token_refuses f.name is.name.1) (lf-after 58 f.raw refl (lf-none is_value_byte refl f.raw is.raw))) (lf-end f.end)

pub lf-fields : (fs : List Field) → All IsField fs → line_feeds (flat_map print_field fs) ≡ length fs
lf-fields [] each = refl
lf-fields (f ∷ fs) each =
    lf-append (print_field f) (flat_map print_field fs)
    ∙ ap₂ (λ m n. m + n) (lf-field f (All-head IsField f fs each)) (lf-fields fs (All-tail IsField f fs each)) ∙ omega arith

pub lf-version : (minor : ℕ) → line_feeds (print_version minor) ≡ 0
lf-version minor =
    lf-append (codes "HTTP/1.") ((48 + minor) ∷ [])
    ∙ ap₂ (λ m n. m + n) refl (lf-after (48 + minor) [] (lf-other (48 + minor) (λ h. omega (arith, h))) refl)

-- a head has a line feed for each empty line before it, for its first line, for each field and for its end
pub lf-request : (h : RequestHead) → IsRequestHead h → line_feeds (print_request h) ≡ length h.blank + length h.fields + 2
unfolding print_request
lf-request h is =
    lf-append (print_blank h.blank ++ h.method ++ 32 ∷ h.target ++ 32 ∷ print_version h.minor ++ print_end h.line_end) (print_section h.fields h.last)
    ∙ ap₂ (λ m n. m + n)
    (lf-append (print_blank h.blank ++ h.method ++ 32 ∷ h.target ++ 32 ∷ print_version h.minor) (print_end h.line_end)
    ∙ ap₂ (λ m n. m + n) (lf-append (print_blank h.blank ++ h.method ++ 32 ∷ h.target) (32 ∷ print_version h.minor)
    ∙ ap₂ (λ m n. m + n) (lf-append (print_blank h.blank ++ h.method) (32 ∷ h.target)
    ∙ ap₂ (λ m n. m + n) (lf-append (print_blank h.blank) h.method ∙ ap₂ (λ m n. m + n) (lf-blank h.blank) (lf-none is_token_byte token_refuses h.method is.method.1)) (lf-after 32 h.target refl (lf-none is_uri_byte refl h.target is.target.1))) (lf-after 32 (print_version h.minor) refl (lf-version h.minor))) (lf-end h.line_end))
    (lf-append (flat_map print_field h.fields) (print_end h.last) ∙ ap₂ (λ m n. m + n) (lf-fields h.fields is.fields) (lf-end h.last))
    ∙ omega arith

-- more than n whole field lines are at least so many line feeds
pub exceeds_lines : (n : ℕ) (p : List ℕ) → RequestExceeds n p → (h : RequestHead) × (n + length h.blank + 2 ≤ line_feeds p)
exceeds_lines n p e =
    let whole : line_feeds p ≡ line_feeds e.0 + line_feeds e.1 = ap line_feeds e.2 ∙ lf-append e.0 e.1 in
    let head : line_feeds e.0 + 1 ≡ line_feeds (print_request e.3) + 0 = sym (lf-append e.0 (10 ∷ [])) ∙ ap line_feeds e.4.1 ∙ lf-append (print_request e.3) [] in
    (e.3, omega (arith, whole, head, lf-request e.3 e.4.0, e.5))
