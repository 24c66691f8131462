-- Which statuses say something.
use Rattle.std.proofs.Common.{◌≡◌, ◌∙◌, ◌==◌, ◌&&◌, ◌||◌, ℕ, Bool, true, false, not, List, [], ◌∷◌, inl, inr, ap, sym, subst, refl, true≢false}
use Rattle.std.specs.List.{list_all, list_any}
use Rattle.std.specs.Str.{bytes_eq}
use Rattle.std.proofs.lemmas.Bool.{eqb-true}
use Rattle.neutron_http.specs.Replies.{IsReplyCode, reply_codes}
use Rattle.wire_types.specs.declared.reply.WireReply.{WireReply}
use Rattle.wire_replies.specs.Faults.{Fault, faults}
use Rattle.wire_replies.specs.ReplyTexts.{IsAnswerText, IsRefused, Says}

and_left : (a b : Bool) → a && b ≡ true → a ≡ true
and_left true b h = refl
and_left false b h = absurd (true≢false (sym h))

and_right : (a b : Bool) → a && b ≡ true → b ≡ true
and_right true b h = h
and_right false b h = absurd (true≢false (sym h))

-- what the statuses of all faults pass that of one of them passes
listed : (P : ℕ → Bool) (fs : List Fault) (code : ℕ) (type : List ℕ) → list_all (λ (f : Fault). P f.0) fs ≡ true
    → list_any (λ (f : Fault). (f.0 == code) && bytes_eq f.1 type) fs ≡ true → P code ≡ true
listed P [] code type all any = absurd (true≢false (sym any))
listed P (x ∷ xs) code type all any = by (x.0 == code) (bytes_eq x.1 type) refl any (listed P xs code type (and_right (P x.0) (list_all (λ (f : Fault). P f.0) xs) all))
  where
    by : (t b : Bool) → (x.0 == code) ≡ t → (t && b) || list_any (λ (f : Fault). (f.0 == code) && bytes_eq f.1 type) xs ≡ true
        → (list_any (λ (f : Fault). (f.0 == code) && bytes_eq f.1 type) xs ≡ true → P code ≡ true) → P code ≡ true
    by true b e h next = ap P (sym (eqb-true x.0 code e)) ∙ and_left (P x.0) (list_all (λ (f : Fault). P f.0) xs) all
    by false b e h next = next h

is_code : ℕ → Bool
is_code n = list_any (λ c. c == n) reply_codes

all_codes : list_all (λ (f : Fault). is_code f.0) faults ≡ true
unfolding is_code
all_codes = refl

none_empty : list_all (λ (f : Fault). not (f.0 == 204)) faults ≡ true
none_empty = refl

pub says_code : (code : ℕ) (body : List ℕ) (r : WireReply) → Says code body r → IsReplyCode code
unfolding is_code
says_code code body r (inl answer) = subst IsReplyCode (sym answer.0) refl
says_code code body r (inr refused) = listed is_code faults code refused.type all_codes refused.listed

pub says_body : (code : ℕ) (body : List ℕ) (r : WireReply) → Says code body r → (code == 204) ≡ false
says_body code body r (inl answer) = ap (λ n. n == 204) answer.0
says_body code body r (inr refused) = by (code == 204) (listed (λ n. not (n == 204)) faults code refused.type none_empty refused.listed)
  where
    by : (t : Bool) → not t ≡ true → t ≡ false
    by true h = absurd (true≢false (sym h))
    by false h = refl

-- no refusal has the status of an answer
none_success : list_all (λ (f : Fault). not (f.0 == 200)) faults ≡ true
none_success = refl

pub says_answer : (code : ℕ) (body : List ℕ) → code ≡ 200 → ((r : WireReply) → IsAnswerText body r → ⊥) → (r : WireReply) → Says code body r → ⊥
says_answer code body is none r (inl answer) = none r answer.1
says_answer code body is none r (inr refused) =
    true≢false (sym (listed (λ n. not (n == 200)) faults code refused.type none_success refused.listed) ∙ ap (λ n. not (n == 200)) is)

pub says_refused : (code : ℕ) (body : List ℕ) → (code ≡ 200 → ⊥) → ((r : WireReply) → IsRefused code body r → ⊥) → (r : WireReply) → Says code body r → ⊥
says_refused code body other none r (inl answer) = other answer.0
says_refused code body other none r (inr refused) = none r refused
