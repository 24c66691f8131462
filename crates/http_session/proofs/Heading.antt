-- From the head of a request to the whole of it.
use Rattle.std.proofs.Common.{[], ◌≡◌, ℕ, ◌+◌, ◌-◌, ◌≤◌, ◌<◌, ◌⊎◌, inl, inr, max, List, ◌++◌, length, take, drop, Option, refl, sym, ap, subst, ◌∙◌, arith, length-append, append-nil, append_assoc, Bool, false, slice_range}
use Rattle.std.proofs.lemmas.List.{take-append-drop, drop-drop, length-take-le}
use Rattle.std.proofs.Math.Seq.{take-append_seam}
use Rattle.std.proofs.KnownBytes.{Consumes-trans, Consumes-nil, Consumes-kept}
use Rattle.std.specs.Io.KnownBytes.{Keeps}
use Rattle.httparse.specs.Grammar.{RequestHead, print_request}
use Rattle.http_heads.specs.Heads.{Judgement, Passes, Refuses, Decides, IsUndecided, IsWaiting}
use Rattle.http_heads.specs.Parts.{ArePartsOf}
use Rattle.http_heads.specs.Read.{IsHeadRead, IsReadAs}
use Rattle.http_heads.specs.declared.head.HeadParts.{HeadParts}
use Rattle.http_heads.specs.declared.head.HeadRead.TheVariants.{More, Head, Refused}
use Rattle.http_heads.proofs.Extends.{Decides-append}
use Rattle.http_heads.proofs.PartLemmas.{length_part, part_of_all, option_of_all}
use Rattle.http_heads.proofs.Unique.{fine, fine_front, body_within}
use Rattle.http_session.specs.Reading.{Reads, HasHead, IsFound}
use Rattle.http_session.specs.declared.request.Request.{Request}

pub reads_none : (b : List ℕ) (left : Option (List ℕ)) (t : ℕ) → Reads b b left left t t
reads_none b left t = record { more = []; grew = sym (append-nil b); read = Consumes-nil left; count = omega arith }

pub reads_on : (a b c : List ℕ) (l m n : Option (List ℕ)) (s t u : ℕ) → Reads a b l m s t → Reads b c m n t u → Reads a c l n s u
reads_on a b c l m n s t u p q = record {
  more = p.more ++ q.more;
  grew = q.grew ∙ ap (λ x. x ++ q.more) p.grew ∙ append_assoc a p.more q.more;
  read = Consumes-trans l m n p.more q.more p.read q.read;
  count = omega (arith, p.count, q.count, length-append p.more q.more);
}

-- the bytes that were looked at are the first of those that are there now
pub seen_front : (a b more : List ℕ) → b ≡ a ++ more → IsUndecided a → IsUndecided (take (length a) b)
seen_front a b more grew u = subst IsUndecided (sym (ap (take (length a)) grew ∙ take-append_seam a more)) u

-- of two fronts that decide nothing the longer one decides nothing
pub longer_front : (bytes : List ℕ) (m n most : ℕ) → most ≡ max m n
    → IsUndecided (take m bytes) → IsUndecided (take n bytes) → IsUndecided (take most bytes)
longer_front bytes m n most is u v = elim (one_of most m n is) [
  | inl e ↦ subst (λ k. IsUndecided (take k bytes)) (sym e) u
  | inr e ↦ subst (λ k. IsUndecided (take k bytes)) (sym e) v
]
  where
    one_of : (most m n : ℕ) → most ≡ max m n → (most ≡ m) ⊎ (most ≡ n)
    one_of most m n is = grind (arith, is)

-- a head that passes, by what was read of it
pub record Passing (b : List ℕ) (size start : ℕ) (close : Bool) (parts : HeadParts) : Type 0 where
  pub head : RequestHead
  pub decides : Decides b (Passes head)
  pub told : IsReadAs b (Passes head) (Head size start close parts)

passing_of : (b : List ℕ) (size start : ℕ) (close : Bool) (parts : HeadParts) (j : Judgement) → Decides b j → IsReadAs b j (Head size start close parts) → Passing b size start close parts
passing_of b size start close parts (Passes head) d told = record { head = head; decides = d; told = told }
passing_of b size start close parts (Refuses n) d told = absurd told

is_head : (size start : ℕ) (close : Bool) (parts : HeadParts) → Head size start close parts ≡ More → ⊥
is_head size start close parts e = cc

pub passing : (b : List ℕ) (size start : ℕ) (close : Bool) (parts : HeadParts) → IsHeadRead b false (Head size start close parts) → Passing b size start close parts
passing b size start close parts (inl told) = passing_of b size start close parts told.0 told.1 told.2
passing b size start close parts (inr none) = absurd (is_head size start close parts none.1)

-- its body ends within the longest request
pub passing_short : (b : List ℕ) (size start : ℕ) (close : Bool) (parts : HeadParts) → Passing b size start close parts → start + size ≤ 81920
passing_short b size start close parts p =
    let f = fine_front b p.head p.decides in omega (arith, p.told.size, p.told.start, f.size, f.short, body_within p.head f.passes)

refused_of : (b : List ℕ) (n : ℕ) (j : Judgement) → Decides b j → IsReadAs b j (Refused n) → Decides b (Refuses n)
refused_of b n (Passes head) d told = absurd told
refused_of b n (Refuses m) d same = subst (λ k. Decides b (Refuses k)) (sym same) d

is_refusal : (n : ℕ) → Refused n ≡ More → ⊥
is_refusal n e = cc

pub refused_so : (b : List ℕ) (n : ℕ) → IsHeadRead b false (Refused n) → Decides b (Refuses n)
refused_so b n (inl told) = refused_of b n told.0 told.1 told.2
refused_so b n (inr none) = absurd (is_refusal n none.1)

open_of : (b : List ℕ) (j : Judgement) → IsReadAs b j More → ⊥
open_of b (Passes head) told = told
open_of b (Refuses n) told = told

pub open_so : (b : List ℕ) → IsHeadRead b false More → IsUndecided b
open_so b (inl told) = absurd (open_of b told.0 told.2)
open_so b (inr none) = none.0

-- the head stays where more bytes come
pub head_stays : (a b more : List ℕ) (request : Request) (head : RequestHead) → b ≡ a ++ more → HasHead a request head → HasHead b request head
head_stays a b more request head grew h = record {
  decides = subst (λ l. Decides l (Passes head)) (sym grew) (Decides-append a more (Passes head) h.decides);
  parts = all_parts (sym (ap (take (length a)) grew ∙ take-append_seam a more));
  start = h.start;
  end = h.end;
  close = h.close;
}
  where
    fits : length a ≤ length b
    fits = omega (arith, ap length grew, length-append a more)

    all_parts : a ≡ take (length a) b → ArePartsOf b head request.parts
    all_parts front =
        let p : ArePartsOf (take (length a) b) head request.parts = subst (λ l. ArePartsOf l head request.parts) front h.parts in record {
          method = part_of_all b (length a) _ _ fits p.method;
          path = part_of_all b (length a) _ _ fits p.path;
          query = part_of_all b (length a) _ _ fits p.query;
          project = option_of_all b (length a) _ _ fits p.project;
          admin = p.admin;
        }

-- a head whose body isn't whole waits for more
pub head_waits : (b : List ℕ) (request : Request) (head : RequestHead) → HasHead b request head → length b < request.body.end → IsWaiting b
head_waits b request head h lt = inr (head, h.decides, omega (arith, h.start, h.end, lt))

-- a head that passes is the front of the bytes, and isn't empty
pub record Fronts (b : List ℕ) (head : RequestHead) : Type 0 where
  pub some : 0 < length (print_request head)
  pub front : take (length (print_request head)) b ≡ print_request head

fronts : (b : List ℕ) (head : RequestHead) → Decides b (Passes head) → Fronts b head
fronts b head d =
    let f = fine (take d.at b) (Passes head) head d.says refl in
    let front : take d.at b ≡ print_request head = f.reads.1 ∙ append-nil (print_request head) in
    let size : length (print_request head) ≡ d.at = sym (ap length front) ∙ length-take-le d.at b d.judged.fits in record {
      some = elim d.judged.ends [ inl e ↦ omega (arith, size, e) | inr e ↦ omega (arith, size, e.1) ];
      front = ap (λ n. take n b) size ∙ front;
    }

-- the bytes are a head, a body behind it, and what follows
cut_parts : (b print : List ℕ) (s e : ℕ) → s ≡ length print → s ≤ e → take (length print) b ≡ print → b ≡ print ++ (slice_range b s e ++ drop e b)
cut_parts b print s e start le front =
    let sum : s + (e - s) ≡ e = omega arith in
    let back : drop s b ≡ slice_range b s e ++ drop e b = sym (take-append-drop (e - s) (drop s b)) ∙ ap (λ l. slice_range b s e ++ l) (drop-drop (e - s) s b ∙ ap (λ n. drop n b) sum) in
    sym (take-append-drop s b) ∙ ap (λ l. l ++ drop s b) (ap (λ n. take n b) start ∙ front) ∙ ap (λ l. print ++ l) back

-- a head whose body is whole is a request
pub head_found : (b : List ℕ) (request : Request) (head : RequestHead) → HasHead b request head → request.body.end ≤ length b → IsFound b request
head_found b request head h fits =
    let f = fronts b head h.decides in
    let ordered : request.body.start ≤ request.body.end = omega (arith, h.end) in
    let body = slice_range b request.body.start request.body.end in (
      fits,
      omega (arith, h.end, h.start, f.some),
      (
        record { head = head; body = body },
        record {
          decides = h.decides;
          body = length_part b request.body.start request.body.end ordered fits ∙ omega (arith, h.end);
          parts = cut_parts b (print_request head) request.body.start request.body.end h.start ordered f.front;
        },
        record { parts = h.parts; body = record { ordered = ordered; within = fits; covers = refl }; close = h.close },
      ),
    )

-- a read that failed brought nothing
pub reads_kept : (b c : List ℕ) (left left_new : Option (List ℕ)) (t : ℕ) → c ≡ b → Keeps left left_new → Reads b c left left_new t t
reads_kept b c left left_new t same kept = record {
  more = [];
  grew = same ∙ sym (append-nil b);
  read = Consumes-kept left left left_new [] (Consumes-nil left) kept;
  count = omega arith;
}
