-- How long the first reply is, as more bytes come.
use Rattle.std.proofs.Common.{◌≡◌, ◌∙◌, ◌≤◌, ◌<◌, ◌+◌, ◌-◌, ◌++◌, ℕ, zero, suc, List, [], ◌∷◌, length, take, drop, map, Option, Some, None, IfSome, ap, ap₂, append-nil, inl, inr, sym, subst, refl, arith}
use Rattle.std.specs.Io.KnownBytes.{Consumes}
use Rattle.std.proofs.KnownBytes.{Consumes-trans}
use Rattle.std.proofs.Math.Seq.{take-append_seam}
use Rattle.std.proofs.lemmas.List.{take-append-drop, take-append-le, length-append, length-drop, length-map, length-take, length-take-le}
use Rattle.httparse.specs.Grammar.{HasNoResponse, ReadsResponse, ResponseHead, print_blank, print_end, print_reason, print_section, print_version}
use Rattle.httparse.specs.Spans.{IsResponseOf, IsResponseWithin, ResponseOverflows, header_bytes, name_and_value}
use Rattle.httparse.specs.declared.spans.HeaderSpan.{HeaderSpan}
use Rattle.httparse.specs.declared.spans.ResponseSpans.{ResponseSpans}
use Rattle.httparse.proofs.GrammarLemmas.{ReadsResponse-append, print_response-append, response_unique}
use Rattle.agent_links.specs.Wholes.{HasNoWhole, HasWhole, IsFirstWhole, IsLengthOf, IsReplyLength, ReadsPiece, body_length, field_limit, head_limit, read_limit}

-- no head is empty
no_head : (h : ResponseHead) (rest : List ℕ) → ReadsResponse [] h rest → ⊥
no_head h rest reads =
    let tail = h.digits ++ (print_reason h.reason ++ (print_end h.line_end ++ (print_section h.fields h.last ++ rest))) in
    let same = ap length (reads.1 ∙ print_response-append h rest) in
    let outer = length-append (print_blank h.blank) (print_version h.minor ++ 32 ∷ tail) in
    let inner = length-append (print_version h.minor) (32 ∷ tail) in
    absurd (omega (arith, same, outer, inner))

pub none_yet : IsLengthOf [] None
none_yet n l = no_head l.head l.rest l.reads

-- a front of bytes is a front of more bytes
longer_front : (n : ℕ) (a b : List ℕ) → (more : List ℕ) × (take n (a ++ b) ≡ take n a ++ more)
longer_front zero a b = ([], refl)
longer_front (suc n) [] b = (take (suc n) b, refl)
longer_front (suc n) (x ∷ a) b = let rest = longer_front n a b in (rest.0, ap (λ l. x ∷ l) rest.1)

-- the front that is looked at is the same once it is full
full_front : (a b : List ℕ) → head_limit ≤ length a → take head_limit (a ++ b) ≡ take head_limit a
full_front a b full = take-append-le head_limit a b full

length_stays : (a b : List ℕ) (n : ℕ) → IsReplyLength a n → IsReplyLength (a ++ b) n
length_stays a b n l =
    let more = longer_front head_limit a b in
    let whole = ap length more.1 in
    let sum = length-append (take head_limit a) more.0 in
    let left = length-append l.rest more.0 in
    let gap : length (take head_limit a) - length l.rest ≡ length (take head_limit (a ++ b)) - length (l.rest ++ more.0) = omega (arith, whole, sum, left) in
    record {
      head = l.head;
      rest = l.rest ++ more.0;
      reads = subst (λ x. ReadsResponse x l.head (l.rest ++ more.0)) (sym more.1) (ReadsResponse-append (take head_limit a) l.head l.rest more.0 l.reads);
      few = l.few;
      is = l.is ∙ ap (λ k. k + body_length (map name_and_value l.head.fields)) gap;
    }

length_before : (a b : List ℕ) (n : ℕ) → head_limit ≤ length a → IsReplyLength (a ++ b) n → IsReplyLength a n
length_before a b n full l =
    let same = full_front a b full in
    record {
      head = l.head;
      rest = l.rest;
      reads = subst (λ x. ReadsResponse x l.head l.rest) same l.reads;
      few = l.few;
      is = l.is ∙ ap (λ (x : List ℕ). (length x - length l.rest) + body_length (map name_and_value l.head.fields)) same;
    }

length_unique : (bytes : List ℕ) (m n : ℕ) → IsReplyLength bytes m → IsReplyLength bytes n → m ≡ n
length_unique bytes m n a b =
    let same = response_unique (take head_limit bytes) a.head b.head a.rest b.rest a.reads b.reads in
    a.is ∙ ap₂ (λ (h : ResponseHead) (r : List ℕ). (length (take head_limit bytes) - length r) + body_length (map name_and_value h.fields)) same.0 same.1 ∙ sym b.is

-- ---- looking again, after more bytes

-- what was found stays
pub found_still : (seen : ℕ) (bytes : List ℕ) (n : ℕ) → IsReplyLength (take seen bytes) n → IsReplyLength bytes n
found_still seen bytes n l = subst (λ x. IsReplyLength x n) (take-append-drop seen bytes) (length_stays (take seen bytes) (drop seen bytes) n l)

-- nothing is found where the front was full
pub none_still : (seen : ℕ) (bytes : List ℕ) → seen ≤ length bytes → head_limit ≤ seen → IsLengthOf (take seen bytes) None → IsLengthOf bytes None
none_still seen bytes within full none n l =
    let size = length-take seen bytes in
    none n (length_before (take seen bytes) (drop seen bytes) n (omega (arith, size, within, full)) (subst (λ x. IsReplyLength x n) (sym (take-append-drop seen bytes)) l))

-- ---- no whole reply

pub none_whole : (bytes : List ℕ) (found : Option ℕ) → IsLengthOf bytes found → IfSome found (λ n. length bytes < n) → (reply : List ℕ) → IsFirstWhole reply bytes → ⊥
none_whole bytes None none short reply w = none w.end w.ends
none_whole bytes (Some n) is short reply w =
    let same = length_unique bytes n w.end is w.ends in
    let within = w.within in
    absurd (omega (arith, same, within, short))

-- ---- the front that is parsed

module _ (bytes front : List ℕ) (same : front ≡ take head_limit bytes) where
  -- a head that was found says how long the reply is
  pub found_length : (spans : List HeaderSpan) (head : ResponseSpans) (body : ℕ) → length spans ≤ field_limit → IsResponseWithin front spans head → IsResponseOf front spans head
      → body ≡ body_length (map (header_bytes front) (take head.headers spans)) → IsReplyLength bytes (head.len + body)
  found_length spans head body room within at is =
      let fits = within.section.len_fits in
      let count = within.section.count_fits in
      let here : head.len ≤ length (take head_limit bytes) = subst (λ (l : List ℕ). head.len ≤ length l) same fits in
      let rest = length-drop head.len (take head_limit bytes) in
      let first : head.len ≡ length (take head_limit bytes) - length (drop head.len (take head_limit bytes)) = omega (arith, here, rest) in
      let named = ap length at.1.fields in
      let mapped = length-map (take head.headers spans) (header_bytes front) in
      let taken = length-take-le head.headers spans count in
      let fields = length-map at.0.fields name_and_value in
      record {
        head = at.0;
        rest = drop head.len (take head_limit bytes);
        reads = subst (λ l. ReadsResponse l at.0 (drop head.len l)) same at.1.reads;
        few = omega (arith, room, count, named, mapped, taken, fields);
        is = ap₂ (λ a b. a + b) first (is ∙ ap body_length at.1.fields);
      }

  pub found_none : HasNoResponse front → IsLengthOf bytes None
  found_none none n l = none l.head l.rest (subst (λ x. ReadsResponse x l.head l.rest) (sym same) l.reads)

  pub too_many : ResponseOverflows field_limit front → IsLengthOf bytes None
  too_many over n l =
      let few = l.few in
      let many = over [] l.head l.rest (subst (λ x. ReadsResponse x l.head l.rest) (sym (append-nil front ∙ same)) l.reads) in
      absurd (omega (arith, few, many))

-- ---- pieces

no_bytes : (l : List ℕ) → length l ≡ 0 → l ≡ []
no_bytes [] e = refl
no_bytes (x ∷ l) e = absurd (omega (arith, e))

module _ (a b c : Option (List ℕ)) (count : ℕ) (before after : List ℕ) (read : ReadsPiece count before after b c) where
  -- all bytes that have come, with one piece more
  pub taken_on : Consumes a b before → Consumes a c after
  taken_on first = subst (Consumes a c) (sym read.is) (Consumes-trans a b c before read.piece first read.taken)

  -- those before it
  pub before_it : (found : Option ℕ) (len : ℕ) (bytes : List ℕ) → len ≡ length before → bytes ≡ after → IsLengthOf before found → IsLengthOf (take len bytes) found
  before_it found len bytes size same is =
      let front : take len bytes ≡ before = ap₂ take size (same ∙ read.is) ∙ take-append_seam before read.piece in
      subst (λ l. IsLengthOf l found) (sym front) is

  -- no byte came, and no whole reply before
  pub none_at_end : (found : Option ℕ) → count ≡ 0 → Consumes a b before → IsLengthOf before found → IfSome found (λ n. length before < n) → HasNoWhole a c
  none_at_end found none first is short =
      let same : after ≡ before = read.is ∙ ap (λ l. before ++ l) (no_bytes read.piece (read.count_is ∙ none)) ∙ append-nil before in
      record {
        read = after;
        taken = taken_on first;
        over = inl (read.end none);
        none = subst (λ l. (reply : List ℕ) → IsFirstWhole reply l → ⊥) (sym same) (none_whole before found is short);
      }

-- so many bytes are read, and no whole reply is among them
pub none_among : (a b : Option (List ℕ)) (bytes : List ℕ) (found : Option ℕ) → length bytes ≡ read_limit → Consumes a b bytes → IsLengthOf bytes found → IfSome found (λ n. length bytes < n) → HasNoWhole a b
none_among a b bytes found full taken is short = record {
  read = bytes;
  taken = taken;
  over = inr full;
  none = none_whole bytes found is short;
}

-- a whole reply has come
pub has_whole : (a b : Option (List ℕ)) (read reply : List ℕ) (end : ℕ) → Consumes a b read → IsReplyLength read end → end ≤ length read → reply ≡ take end read → HasWhole reply a b
has_whole a b read reply end taken ends within is = record {
  read = read;
  taken = taken;
  whole = record { end = end; ends = ends; within = within; is = is };
}
