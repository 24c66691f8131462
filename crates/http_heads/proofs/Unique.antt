-- Bytes decide one thing, and begin with one request.
use Rattle.std.proofs.Common.{◌≡◌, ℕ, ◌+◌, ◌<◌, ◌≤◌, ◌⊎◌, inl, inr, List, [], ◌++◌, length, take, drop, Option, Some, None, refl, sym, ap, ap₂, subst, ◌∙◌, arith, append-nil, length-append, length-take, Bool, true, false, if◌then◌else◌, nat_lt}
use Rattle.std.proofs.Math.Seq.{take-append_seam, drop-append_seam}
use Rattle.std.proofs.lemmas.Bool.Decides.{nat_tests}
use Rattle.std.proofs.lemmas.List.{length-take-le, append_cancel_left}
use Rattle.std.specs.Prelude.{codes}
use Rattle.httparse.specs.Grammar.{RequestHead, print_request, ReadsRequest}
use Rattle.httparse.proofs.GrammarLemmas.{request_unique}
use Rattle.http_heads.specs.Fields.{own_refusal, body_length, fields_of, refusal_of, refusal_by_form, length_told, told_length, has_field, needs_length}
use Rattle.http_heads.specs.declared.values.BodyLength.{BodyLength}
use Rattle.http_heads.specs.declared.values.BodyLength.TheVariants.{Missing, Given, Bad}
use Rattle.http_heads.specs.Heads.{Judgement, Passes, Refuses, judgement_of, Judges, whole, wrong, large, IsOpen, Decides, IsUndecided, IsWaiting, Asked, Takes}

-- an open prefix says nothing
pub open_says_nothing : (p : List ℕ) (j : Judgement) → IsOpen p → Judges p j → ⊥
open_says_nothing p _ o (whole {head} reads) = o.no_head head reads
open_says_nothing p _ o (wrong none never) = never o.follow
open_says_nothing p _ o (large none follow much) = o.small much

pub one_judgement : (p : List ℕ) (i j : Judgement) → Judges p i → Judges p j → i ≡ j
one_judgement p _ _ (whole {head} reads) (whole {head = other} again) = ap (λ h. judgement_of h (own_refusal h)) (request_unique p head other [] [] reads again).0
one_judgement p _ _ (whole {head} reads) (wrong none never) = absurd (none head reads)
one_judgement p _ _ (whole {head} reads) (large none follow much) = absurd (none head reads)
one_judgement p _ _ (wrong none never) (whole {head} reads) = absurd (none head reads)
one_judgement p _ _ (wrong none never) (wrong again also) = refl
one_judgement p _ _ (wrong none never) (large again follow much) = absurd (never follow)
one_judgement p _ _ (large none follow much) (whole {head} reads) = absurd (none head reads)
one_judgement p _ _ (large none follow much) (wrong again never) = absurd (never follow)
one_judgement p _ _ (large none follow much) (large again also enough) = refl

pub one_place : (input : List ℕ) (i j : Judgement) (d : Decides input i) (e : Decides input j) → (d.at < e.at → ⊥)
one_place input i j d e lt = open_says_nothing (take d.at input) i (e.first d.at lt d.judged) d.says

-- bytes decide one thing
pub one_decision : (input : List ℕ) (i j : Judgement) → Decides input i → Decides input j → i ≡ j
one_decision input i j d e =
    let notless = one_place input i j d e in
    let notmore = one_place input j i e d in
    let same : d.at ≡ e.at = omega (arith, notless, notmore) in
    one_judgement (take e.at input) i j (subst (λ n. Judges (take n input) i) same d.says) e.says

-- what decides isn't undecided
pub decided : (input : List ℕ) (j : Judgement) → Decides input j → IsUndecided input → ⊥
decided input j d u = open_says_nothing (take d.at input) j (u d.at d.judged) d.says

-- undecided bytes are fewer than a head may have
pub undecided_short : (input : List ℕ) → IsUndecided input → length input < 16384
undecided_short input u = elim (le_or_lt 16384 (length input)) [
  | inl le ↦ absurd ((u 16384 (record { fits = le; short = omega arith; ends = inl refl })).small (inl (omega (arith, length-take 16384 input, le))))
  | inr lt ↦ lt
]
  where
    le_or_lt : (m n : ℕ) → (m ≤ n) ⊎ (n < m)
    le_or_lt m n = grind arith

-- the parts of a head that passes
pub record Fine (bytes : List ℕ) (head : RequestHead) : Type 0 where
  pub reads : ReadsRequest bytes head []
  pub passes : own_refusal head ≡ None

fine_when : (bytes : List ℕ) (other head : RequestHead) (r : Option ℕ) → ReadsRequest bytes other [] → own_refusal other ≡ r → judgement_of other r ≡ Passes head → Fine bytes head
fine_when bytes other head None reads e same = let h : other ≡ head = cc in subst (Fine bytes) h (record { reads = reads; passes = e })
fine_when bytes other head (Some n) reads e same = absurd (cc)

pub fine : (bytes : List ℕ) (j : Judgement) (head : RequestHead) → Judges bytes j → j ≡ Passes head → Fine bytes head
fine bytes _ head (whole {head = other} reads) e = fine_when bytes other head (own_refusal other) reads refl e
fine bytes _ head (wrong none never) e = absurd (cc)
fine bytes _ head (large none follow much) e = absurd (cc)

-- a head that passes is the front of the bytes, and no longer than a head may be
pub record FineFront (input : List ℕ) (head : RequestHead) : Type 0 where
  pub at : ℕ
  pub fits : at ≤ length input
  pub short : at ≤ 16384
  pub front : take at input ≡ print_request head
  pub size : length (print_request head) ≡ at
  pub passes : own_refusal head ≡ None

pub fine_front : (input : List ℕ) (head : RequestHead) → Decides input (Passes head) → FineFront input head
fine_front input head d =
    let f = fine (take d.at input) (Passes head) head d.says refl in
    let front : take d.at input ≡ print_request head = f.reads.1 ∙ append-nil (print_request head) in record {
      at = d.at;
      fits = d.judged.fits;
      short = d.judged.short;
      front = front;
      size = sym (ap length front) ∙ length-take-le d.at input d.judged.fits;
      passes = f.passes;
    }

body_within_by : (many needed coded : Bool) (told : BodyLength) → refusal_of many needed coded told ≡ None → length_told told ≤ 65536
body_within_by many needed coded Bad e = absurd (cc)
body_within_by many needed coded Missing e = omega arith
body_within_by true needed coded (Given n) e = absurd (cc)
body_within_by false needed coded (Given n) e = below (nat_lt 65536 n) refl e
  where
    below : (t : Bool) → nat_lt 65536 n ≡ t → (if t then Some 3 else refusal_by_form false coded) ≡ None → n ≤ 65536
    below true is e = absurd (cc)
    below false is e = grind (arith, nat_tests)

-- the body of a head that passes isn't too long
pub body_within : (head : RequestHead) → own_refusal head ≡ None → body_length head ≤ 65536
unfolding own_refusal body_length
body_within head e =
    body_within_by (nat_lt 64 (length head.fields)) (needs_length head.method) (has_field (codes "transfer-encoding") (fields_of head)) (told_length (fields_of head)) e

-- bytes that wait for more leave room in 81,920
pub waiting_short : (input : List ℕ) → IsWaiting input → length input < 81920
waiting_short input (inl u) = omega (arith, undecided_short input u)
waiting_short input (inr w) =
    let f = fine_front input w.0 w.1 in omega (arith, body_within w.0 f.passes, f.size, f.short, w.2)

-- bytes begin with one request
pub one_request : (bytes : List ℕ) (a b : Asked) (r q : List ℕ) → Takes bytes a r → Takes bytes b q → (a ≡ b) × (r ≡ q)
one_request bytes a b r q t u =
    let heads : Passes a.head ≡ Passes b.head = one_decision bytes _ _ t.decides u.decides in
    let head : a.head ≡ b.head = cc in
    let same : a.body ++ r ≡ b.body ++ q = append_cancel_left (print_request b.head) (a.body ++ r) (b.body ++ q) (ap (λ h. print_request h ++ (a.body ++ r)) (sym head) ∙ sym t.parts ∙ u.parts) in
    let size : length a.body ≡ length b.body = t.body ∙ ap body_length head ∙ sym u.body in
    let body : a.body ≡ b.body = sym (take-append_seam a.body r) ∙ ap₂ (λ n l. take n l) size same ∙ take-append_seam b.body q in
    let rest : r ≡ q = sym (drop-append_seam a.body r) ∙ ap₂ (λ n l. drop n l) size same ∙ drop-append_seam b.body q in
    let make : RequestHead → List ℕ → Asked = λ h t. record { head = h; body = t } in
    (ap₂ make head body, rest)

-- bytes that begin with a request don't wait
pub whole_waits_not : (bytes : List ℕ) (asked : Asked) (rest : List ℕ) → Takes bytes asked rest → IsWaiting bytes → ⊥
whole_waits_not bytes asked rest t (inl u) = decided bytes _ t.decides u
whole_waits_not bytes asked rest t (inr w) =
    let same : Passes asked.head ≡ Passes w.0 = one_decision bytes _ _ t.decides w.1 in
    let head : asked.head ≡ w.0 = cc in
    let size : length bytes ≡ length (print_request asked.head) + (length asked.body + length rest) = ap length t.parts ∙ length-append (print_request asked.head) (asked.body ++ rest) ∙ ap (λ n. length (print_request asked.head) + n) (length-append asked.body rest) in
    omega (arith, size, t.body, w.2, ap (λ h. length (print_request h) + body_length h) head)

-- nor do refused bytes
pub refused_waits_not : (bytes : List ℕ) (n : ℕ) → Decides bytes (Refuses n) → IsWaiting bytes → ⊥
refused_waits_not bytes n d (inl u) = decided bytes _ d u
refused_waits_not bytes n d (inr w) = let same : Refuses n ≡ Passes w.0 = one_decision bytes _ _ d w.1 in absurd (cc)
