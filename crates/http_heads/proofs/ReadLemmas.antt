-- What is answered of what the bytes decide.
use Rattle.std.proofs.Common.{ℕ, ◌≤◌, Bool, true, false, List, length, take, inl, inr, refl, subst, arith, if◌then◌else◌, nat_lt, codes}
use Rattle.std.specs.Prelude.{Option, Some, None}
use Rattle.httparse.specs.Grammar.{RequestHead}
use Rattle.http_heads.specs.Fields.{own_refusal, fields_of, refusal_of, refusal_by_form, told_length, needs_length, has_field}
use Rattle.http_heads.specs.declared.values.BodyLength.{BodyLength}
use Rattle.http_heads.specs.declared.values.BodyLength.TheVariants.{Missing, Given, Bad}
use Rattle.http_heads.specs.Heads.{Judgement, judgement_of, Decides, IsUndecided}
use Rattle.http_heads.specs.Read.{IsReadAs, IsWholeRead, IsHeadRead, IsNumbered, undecided_read}
use Rattle.http_heads.specs.declared.head.HeadRead.{HeadRead}
use Rattle.http_heads.specs.declared.head.HeadRead.TheVariants.{More, Head, Refused}
use Rattle.http_heads.proofs.Unique.{one_decision, decided}
use Rattle.http_heads.proofs.PartLemmas.{part_of_all, option_of_all}

-- all that is said of an answer
pub record IsAnswer (b : List ℕ) (ended : Bool) (r : HeadRead) : Type 0 where
  pub is : IsHeadRead b ended r
  pub only : (j : Judgement) → Decides b j → IsReadAs b j r
  pub number : IsNumbered r

pub decided_so : (b : List ℕ) (ended : Bool) (j : Judgement) (r : HeadRead) → Decides b j → IsReadAs b j r → IsNumbered r → IsAnswer b ended r
decided_so b ended j r d read numbered = record {
  is = inl (j, d, read);
  only = λ k e. subst (λ i. IsReadAs b i r) (one_decision b j k d e) read;
  number = numbered;
}

pub undecided_so : (b : List ℕ) (ended : Bool) → IsUndecided b → IsAnswer b ended (undecided_read ended)
undecided_so b ended u = record { is = inr (u, refl); only = λ j d. absurd (decided b j d u); number = numbered ended }
  where
    numbered : (ended : Bool) → IsNumbered (undecided_read ended)
    numbered true = (omega arith, omega arith)
    numbered false = tt

-- what is read of the first n bytes is read of all
pub read_of_all : (b : List ℕ) (n : ℕ) (head : RequestHead) (own : Option ℕ) (r : HeadRead) → n ≤ length b → IsWholeRead (take n b) head own r → IsReadAs b (judgement_of head own) r
read_of_all b n head None More fits h = h
read_of_all b n head None (Head size start close parts) fits h = record {
  size = h.size;
  start = h.start;
  closes_is = h.closes_is;
  parts_are = record {
    method = part_of_all b n _ _ fits h.parts_are.method;
    path = part_of_all b n _ _ fits h.parts_are.path;
    query = part_of_all b n _ _ fits h.parts_are.query;
    project = option_of_all b n _ _ fits h.parts_are.project;
    admin = h.parts_are.admin;
  };
}
read_of_all b n head None (Refused m) fits h = h
read_of_all b n head (Some k) More fits h = h
read_of_all b n head (Some k) (Head size start close parts) fits h = h
read_of_all b n head (Some k) (Refused m) fits h = h

abbrev IfSomeOfFour : Option ℕ → Type 0
IfSomeOfFour None = Unit {0}
IfSomeOfFour (Some n) = (1 ≤ n) × (n ≤ 4)

form_number : (t : Bool) → IfSomeOfFour (if t then Some 4 else None)
form_number true = (omega arith, omega arith)
form_number false = tt

own_number : (many needed coded : Bool) (told : BodyLength) → IfSomeOfFour (refusal_of many needed coded told)
own_number many needed coded Bad = (omega arith, omega arith)
own_number true needed coded Missing = (omega arith, omega arith)
own_number true needed coded (Given n) = (omega arith, omega arith)
own_number false true coded Missing = (omega arith, omega arith)
own_number false false coded Missing = form_number coded
own_number false needed coded (Given n) = by (nat_lt 65536 n)
  where
    by : (t : Bool) → IfSomeOfFour (if t then Some 3 else refusal_by_form false coded)
    by true = (omega arith, omega arith)
    by false = form_number coded

numbered_by : (b : List ℕ) (head : RequestHead) (own : Option ℕ) (r : HeadRead) → IfSomeOfFour own → IsWholeRead b head own r → IsNumbered r
numbered_by b head None More few h = tt
numbered_by b head None (Head size start close parts) few h = tt
numbered_by b head None (Refused n) few h = absurd h
numbered_by b head (Some k) More few h = tt
numbered_by b head (Some k) (Head size start close parts) few h = tt
numbered_by b head (Some k) (Refused n) few h = (omega (arith, h, few.0), omega (arith, h, few.1))

pub numbered_whole : (b : List ℕ) (head : RequestHead) (r : HeadRead) → IsWholeRead b head (own_refusal head) r → IsNumbered r
unfolding own_refusal
numbered_whole b head r h = numbered_by b head _ r (own_number (nat_lt 64 (length head.fields)) (needs_length head.method) (has_field (codes "transfer-encoding") (fields_of head)) (told_length (fields_of head))) h
