-- What the spans of a head say of the head.
use Rattle.std.proofs.Common.{◌≡◌, ℕ, ◌==◌, ◌||◌, List, length, take, refl, sym, ap, ap₂, ◌∙◌, arith, nat_lt, codes, Bool, Some, None, subst}
use Rattle.std.proofs.lemmas.List.{length-take, length-map}
use Rattle.std.specs.Prelude.{map, Option}
use Rattle.std.specs.List.{list_any}
use Rattle.httparse.specs.Grammar.{RequestHead}
use Rattle.httparse.specs.Spans.{header_bytes, name_and_value, span_bytes, IsRequestAt, IsRequestWithin}
use Rattle.httparse.specs.declared.spans.HeaderSpan.{HeaderSpan}
use Rattle.httparse.specs.declared.spans.RequestSpans.{RequestSpans}
use Rattle.http_heads.specs.Fields.{Named, fields_of, own_refusal, refusal_of, needs_length, has_field, told_length, body_length, length_told, closes, values, only, project_of, is_admin}
use Rattle.http_heads.specs.declared.values.BodyLength.{BodyLength}
use Rattle.http_heads.specs.Read.{IsToldOf, IsWholeRead}
use Rattle.http_heads.specs.declared.head.HeadParts.{HeadParts}
use Rattle.http_heads.specs.declared.head.HeadRead.TheVariants.{Head, Refused}
use Rattle.http_heads.specs.Words.{has_word, is_space, is_space_or_tab}

abbrev pub named_in : List ℕ → List HeaderSpan → RequestSpans → List Named
named_in b hs spans = map (header_bytes b) (take spans.headers hs)

module _ (b : List ℕ) (hs : List HeaderSpan) (spans : RequestSpans) (head : RequestHead) (within : IsRequestWithin b hs spans) (at : IsRequestAt b hs spans head) where
  count_is : spans.headers ≡ length head.fields
  count_is = omega (arith, ap length at.fields, length-map (take spans.headers hs) (header_bytes b), length-map head.fields name_and_value, length-take spans.headers hs, within.section.count_fits)

  -- the refusal is that of the spans
  pub own_is : own_refusal head ≡ refusal_of (nat_lt 64 spans.headers) (needs_length (span_bytes b spans.method)) (has_field (codes "transfer-encoding") (named_in b hs spans)) (told_length (named_in b hs spans))
  unfolding own_refusal
  own_is =
      ap (λ n. refusal_of (nat_lt 64 n) (needs_length head.method) (has_field (codes "transfer-encoding") (fields_of head)) (told_length (fields_of head))) (sym count_is)
      ∙ ap (λ m. refusal_of (nat_lt 64 spans.headers) (needs_length m) (has_field (codes "transfer-encoding") (fields_of head)) (told_length (fields_of head))) (sym at.method)
      ∙ ap (λ fs. refusal_of (nat_lt 64 spans.headers) (needs_length (span_bytes b spans.method)) (has_field (codes "transfer-encoding") fs) (told_length fs)) (sym at.fields)

  pub length_is : body_length head ≡ length_told (told_length (named_in b hs spans))
  unfolding body_length
  length_is = ap (λ fs. length_told (told_length fs)) (sym at.fields)

  pub closes_is : closes head ≡ (spans.version == 0 || list_any (has_word is_space_or_tab (codes "close")) (values (codes "connection") (named_in b hs spans)))
  unfolding closes
  closes_is = ap₂ (λ v fs. v == 0 || list_any (has_word is_space_or_tab (codes "close")) (values (codes "connection") fs)) (sym at.version) (sym at.fields)

  pub project_is : project_of head ≡ only (values (codes "x-project-id") (named_in b hs spans))
  unfolding project_of
  project_is = ap (λ fs. only (values (codes "x-project-id") fs)) (sym at.fields)

  pub admin_is : is_admin head ≡ list_any (has_word is_space (codes "admin")) (values (codes "x-roles") (named_in b hs spans))
  unfolding is_admin
  admin_is = ap (λ fs. list_any (has_word is_space (codes "admin")) (values (codes "x-roles") fs)) (sym at.fields)

  -- the refusal that is computed is the head's own
  pub own_so : (method : List ℕ) (needed : Bool) (count : ℕ) (told : BodyLength) → method ≡ span_bytes b spans.method → needed ≡ needs_length method
      → count ≡ length (values (codes "transfer-encoding") (named_in b hs spans)) → told ≡ told_length (named_in b hs spans)
      → refusal_of (nat_lt 64 spans.headers) needed (nat_lt 0 count) told ≡ own_refusal head
  own_so method needed count told m n k t =
      ap (λ x. refusal_of (nat_lt 64 spans.headers) x (nat_lt 0 count) told) (n ∙ ap needs_length m)
      ∙ ap (λ x. refusal_of (nat_lt 64 spans.headers) (needs_length (span_bytes b spans.method)) (nat_lt 0 x) told) k
      ∙ ap (λ x. refusal_of (nat_lt 64 spans.headers) (needs_length (span_bytes b spans.method)) (has_field (codes "transfer-encoding") (named_in b hs spans)) x) t
      ∙ sym own_is

-- a head that is refused is read so
pub refused_so : (b : List ℕ) (head : RequestHead) (n : ℕ) (own : Option ℕ) → own ≡ Some n → IsWholeRead b head own (Refused n)
refused_so b head n own e = subst (λ o. IsWholeRead b head o (Refused n)) (sym e) refl

-- a head that passes is read so
pub passed_so : (b : List ℕ) (head : RequestHead) (own : Option ℕ) (size start : ℕ) (close : Bool) (parts : HeadParts) → own ≡ None → IsToldOf b head size start close parts → IsWholeRead b head own (Head size start close parts)
passed_so b head own size start close parts e told = subst (λ o. IsWholeRead b head o (Head size start close parts)) (sym e) told
