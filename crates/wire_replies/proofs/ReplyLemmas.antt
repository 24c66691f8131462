-- The bytes of a reply are read as what they were written of.
use Rattle.std.proofs.Common.{◌≡◌, ◌∙◌, ◌≤◌, ◌<◌, ◌^◌, ◌==◌, ◌↔◌, ℕ, Bool, true, false, List, length, map, codes, Option, Some, None, option_map, MatchOption, is_some, if◌then◌else◌, IsTrue, [], append-nil, ap, ap₂, sym, subst, refl, arith, true≢false}
use Rattle.std.specs.Str.{bytes_eq}
use Rattle.std.proofs.lemmas.List.{length-map}
use Rattle.httparse.specs.Grammar.{HasNoResponse, ReadsResponse, ResponseHead, status_code}
use Rattle.httparse.specs.Spans.{ResponseOverflows, name_and_value}
use Rattle.httparse.proofs.GrammarLemmas.{response_unique}
use Rattle.neutron_http.specs.Replies.{IsReplyCode, IsWholeReply, Named, body_of, fields_of, reply_bytes}
use Rattle.neutron_http.proofs.ReplyHead.{whole_reply}
use Rattle.wire_types.specs.declared.reply.WireReply.{WireReply}
use Rattle.wire_replies.specs.Readings.{IsReadAs, IsReplyWith, IsWrittenBy, field_named, is_allowed, methods_in}
use Rattle.wire_replies.specs.ReplyTexts.{IsAllow, IsReplyText}
use Rattle.wire_replies.proofs.FaultLemmas.{says_body, says_code}
use Rattle.wire_replies.proofs.FieldLemmas.{allow_passes, allow_said, allowed, are_value, close_said, few_fields, same_text, text_same}

-- a reply has one head and one body
module _ (bytes : List ℕ) (code : ℕ) (close : Bool) (allow : Option (List ℕ)) (body : List ℕ) (is_code : IsReplyCode code) (small : length body < 2 ^ 64) (may : IsAllow code allow) (is : bytes ≡ reply_bytes code close allow body) where
  whole : IsWholeReply (reply_bytes code close allow body) code (fields_of code close allow body) (body_of code body)
  whole = whole_reply code close allow body is_code small (are_value code allow may)

  reads : ReadsResponse bytes whole.head (body_of code body)
  reads = subst (λ b. ReadsResponse b whole.head (body_of code body)) (sym is) whole.reads

  fields_read : (found : ℕ) (fields : List Named) (rest : List ℕ) → IsReadAs bytes found fields rest → fields ≡ fields_of code close allow body
  fields_read found fields rest h =
      h.3 ∙ ap (λ (x : ResponseHead). map name_and_value x.fields) (response_unique bytes h.0 whole.head rest (body_of code body) h.1 reads).0 ∙ whole.fields_are

  code_read : (found : ℕ) (fields : List Named) (rest : List ℕ) → IsReadAs bytes found fields rest → code ≡ found
  code_read found fields rest h =
      sym whole.code_is ∙ ap status_code (sym (response_unique bytes h.0 whole.head rest (body_of code body) h.1 reads).0) ∙ sym h.2

  body_read : (found : ℕ) (fields : List Named) (rest : List ℕ) → IsReadAs bytes found fields rest → body_of code body ≡ rest
  body_read found fields rest h = sym (response_unique bytes h.0 whole.head rest (body_of code body) h.1 reads).1

  few_read : length whole.head.fields ≤ 8
  few_read =
      let same = length-map whole.head.fields name_and_value in
      let few = few_fields code close allow body in
      let are : length (map name_and_value whole.head.fields) ≡ length (fields_of code close allow body) = ap length whole.fields_are in
      omega (arith, same, few, are)

-- ---- whether bytes are written so

pub some_mapped : {X Y : Type 0} (f : X → Y) (o : Option X) → is_some (option_map f o) ≡ is_some o
some_mapped f None = refl
some_mapped f (Some x) = refl

module _ (bytes : List ℕ) (code : ℕ) (fields : List Named) (body : List ℕ) (is_code : IsReplyCode code) (small : length body < 2 ^ 64) (h : IsReadAs bytes code fields body) where
  close_is : (w : IsWrittenBy bytes code body) → is_some (field_named (codes "Connection") fields) ≡ w.0
  close_is w =
      ap (λ fs. is_some (field_named (codes "Connection") fs)) (fields_read bytes code w.0 w.1 body is_code small w.2 w.3 code fields body h) ∙ close_said code w.0 w.1 body

  allow_is : (w : IsWrittenBy bytes code body) → methods_in (field_named (codes "Allow") fields) ≡ w.1
  allow_is w =
      ap (λ fs. methods_in (field_named (codes "Allow") fs)) (fields_read bytes code w.0 w.1 body is_code small w.2 w.3 code fields body h) ∙ allow_said code w.0 w.1 body w.2

  pub not_written : (allow : Option (List ℕ)) → allow ≡ methods_in (field_named (codes "Allow") fields) → is_allowed code allow ≡ false → IsWrittenBy bytes code body → ⊥
  not_written allow is none w =
      true≢false (sym (ap (is_allowed code) (is ∙ allow_is w) ∙ allow_passes code w.1 w.2) ∙ none)

  pub written_again : (close : Bool) (allow : Option (List ℕ)) (again : List ℕ) → close ≡ is_some (field_named (codes "Connection") fields) → allow ≡ methods_in (field_named (codes "Allow") fields)
      → is_allowed code allow ≡ true → again ≡ reply_bytes code close allow body → IsTrue (bytes_eq again bytes) ↔ IsWrittenBy bytes code body
  written_again close allow again close_here allow_here may is = (forth, back)
    where
      forth : IsTrue (bytes_eq again bytes) → IsWrittenBy bytes code body
      forth same = (
        close,
        allow,
        subst (IsAllow code) (sym allow_here) (allowed code (field_named (codes "Allow") fields) (ap (is_allowed code) (sym allow_here) ∙ may)),
        sym (same_text again bytes same) ∙ is,
      )

      back : IsWrittenBy bytes code body → IsTrue (bytes_eq again bytes)
      back w = text_same again bytes (is ∙ ap₂ (λ c a. reply_bytes code c a body) (close_here ∙ close_is w) (allow_here ∙ allow_is w) ∙ sym w.3)

-- ---- whole replies

kept : (code : ℕ) (body : List ℕ) → (code == 204) ≡ false → body_of code body ≡ body
kept code body e = ap (λ t. if t then [] else body) e

module _ (bytes : List ℕ) (r : WireReply) (is : IsReplyText bytes r) where
  small : length is.body < 2 ^ 64
  small = let most = is.most in omega (arith, most)

  -- a head is found
  pub has_head : (h : ResponseHead) × (rest : List ℕ) × ReadsResponse bytes h rest × (length h.fields ≤ 8)
  has_head =
      let code = says_code is.code is.body r is.says in (
        (whole bytes is.code is.close is.allow is.body code small is.allowed is.is).head,
        body_of is.code is.body,
        reads bytes is.code is.close is.allow is.body code small is.allowed is.is,
        few_read bytes is.code is.close is.allow is.body code small is.allowed is.is,
      )

  -- whoever reads it finds its status and body
  pub as_read : (code : ℕ) (fields : List Named) (body : List ℕ) → IsReadAs bytes code fields body → IsReplyWith bytes code body r
  as_read code fields body h =
      let is_code = says_code is.code is.body r is.says in
      let same_code : is.code ≡ code = code_read bytes is.code is.close is.allow is.body is_code small is.allowed is.is code fields body h in
      let same_body : is.body ≡ body = sym (kept is.code is.body (says_body is.code is.body r is.says)) ∙ body_read bytes is.code is.close is.allow is.body is_code small is.allowed is.is code fields body h in
      subst (λ b. IsReplyWith bytes code b r) same_body (subst (λ c. IsReplyWith bytes c is.body r) same_code (is.most, (is.close, is.allow, is.allowed, is.is), is.says))

pub whole_text : (bytes : List ℕ) (code : ℕ) (body : List ℕ) (r : WireReply) → IsReplyWith bytes code body r → IsReplyText bytes r
whole_text bytes code body r w = record {
  code = code;
  close = w.1.0;
  allow = w.1.1;
  body = body;
  most = w.0;
  allowed = w.1.2;
  is = w.1.3;
  says = w.2;
}

pub whole_answer : (bytes : List ℕ) (code : ℕ) (fields : List Named) (body : List ℕ) → IsReadAs bytes code fields body → (o : Option WireReply)
    → MatchOption o ((r : WireReply) → IsReplyWith bytes code body r → ⊥) (IsReplyWith bytes code body) → MatchOption o ((r : WireReply) → IsReplyText bytes r → ⊥) (IsReplyText bytes)
whole_answer bytes code fields body h None none = λ r is. none r (as_read bytes r is code fields body h)
whole_answer bytes code fields body h (Some r) is = whole_text bytes code body r is

-- ---- no reply is there

pub not_there : (bytes : List ℕ) → HasNoResponse bytes → (r : WireReply) → IsReplyText bytes r → ⊥
not_there bytes none r is = let w = has_head bytes r is in none w.0 w.1 w.2

pub not_so_many : (bytes : List ℕ) → ResponseOverflows 8 bytes → (r : WireReply) → IsReplyText bytes r → ⊥
not_so_many bytes over r is =
    let w = has_head bytes r is in
    let few = w.3 in
    let many = over [] w.0 w.1 (subst (λ b. ReadsResponse b w.0 w.1) (sym (append-nil bytes)) w.2) in
    absurd (omega (arith, few, many))
