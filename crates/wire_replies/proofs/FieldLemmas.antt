-- The fields of a reply, and what they say.
use Rattle.std.proofs.Common.{◌≡◌, ◌∙◌, ◌≤◌, ◌+◌, ◌==◌, ◌&&◌, ◌||◌, ℕ, Bool, true, false, not, List, [], ◌∷◌, ◌++◌, length, codes, decimal, Option, None, Some, is_some, option_map, if◌then◌else◌, IfSome, ap, sym, refl, arith, true≢false}
use Rattle.std.specs.List.{find, list_all, list_any}
use Rattle.std.specs.Option.{option_or}
use Rattle.std.specs.Str.{bytes_eq}
use Rattle.std.proofs.lemmas.Bool.{eqb-true, or_left, or_right}
use Rattle.std.proofs.lemmas.List.{length-append}
use Rattle.std.proofs.lemmas.List.Folds.{find-append}
use Rattle.std.proofs.lemmas.List.Sums.{AllPass-from_list_all}
use Rattle.std.proofs.lemmas.Slice.Eq.{bytes_eq-Decides}
use Rattle.httparse.specs.Grammar.{is_value_byte, trim_ows}
use Rattle.neutron_http.specs.Replies.{IsFieldValue, Named, allow_fields, body_fields, caller_fields, close_fields, fields_of}
use Rattle.wire_replies.specs.Readings.{field_named, is_allowed, is_named, is_text, methods_in}
use Rattle.wire_replies.specs.ReplyTexts.{IsAllow, method_lists}

-- ---- texts

pub same_text : (a b : List ℕ) → bytes_eq a b ≡ true → a ≡ b
same_text a b e = (bytes_eq-Decides a b).0 e

pub text_same : (a b : List ℕ) → a ≡ b → bytes_eq a b ≡ true
text_same a b e = (bytes_eq-Decides a b).1 e

and_left : (a b : Bool) → a && b ≡ true → a ≡ true
and_left true b h = refl
and_left false b h = absurd (true≢false (sym h))

and_right : (a b : Bool) → a && b ≡ true → b ≡ true
and_right true b h = h
and_right false b h = absurd (true≢false (sym h))

-- what each text of a list passes passes one that is listed
listed : (P : List ℕ → Bool) (ms : List (List ℕ)) (m : List ℕ) → list_all P ms ≡ true → list_any (λ x. bytes_eq x m) ms ≡ true → P m ≡ true
listed P [] m all any = absurd (true≢false (sym any))
listed P (x ∷ xs) m all any = by (bytes_eq x m) refl any (listed P xs m (and_right (P x) (list_all P xs) all))
  where
    by : (t : Bool) → bytes_eq x m ≡ t → t || list_any (λ y. bytes_eq y m) xs ≡ true → (list_any (λ y. bytes_eq y m) xs ≡ true → P m ≡ true) → P m ≡ true
    by true e h next = ap P (sym (same_text x m e)) ∙ and_left (P x) (list_all P xs) all
    by false e h next = next h

-- a listed text is found
find_self : (ms : List (List ℕ)) (m : List ℕ) → list_any (λ x. bytes_eq x m) ms ≡ true → find (is_text m) ms ≡ Some m
find_self [] m any = absurd (true≢false (sym any))
find_self (x ∷ xs) m any = by (bytes_eq x m) refl any (find_self xs m)
  where
    by : (t : Bool) → bytes_eq x m ≡ t → t || list_any (λ y. bytes_eq y m) xs ≡ true → (list_any (λ y. bytes_eq y m) xs ≡ true → find (is_text m) xs ≡ Some m) → (if t then Some x else find (is_text m) xs) ≡ Some m
    by true e h next = ap Some (same_text x m e)
    by false e h next = next h

-- what is found is listed
found_listed : (p : List ℕ → Bool) (ms : List (List ℕ)) (m : List ℕ) → find p ms ≡ Some m → list_any (λ x. bytes_eq x m) ms ≡ true
found_listed p [] m h = cc
found_listed p (x ∷ xs) m h = by (p x) h (found_listed p xs m)
  where
    by : (t : Bool) → (if t then Some x else find p xs) ≡ Some m → (find p xs ≡ Some m → list_any (λ y. bytes_eq y m) xs ≡ true) → bytes_eq x m || list_any (λ y. bytes_eq y m) xs ≡ true
    by true h next = or_left (bytes_eq x m) _ (text_same x m (cc))
    by false h next = or_right (bytes_eq x m) _ (next h)

-- ---- methods

is_value : List ℕ → Bool
is_value v = list_all is_value_byte v && bytes_eq (trim_ows v) v

all_are_values : list_all is_value method_lists ≡ true
unfolding is_value trim_ows
all_are_values = refl

value_of : (v : List ℕ) → is_value v ≡ true → IsFieldValue v
unfolding is_value
value_of v h = record {
  bytes = AllPass-from_list_all is_value_byte v (and_left (list_all is_value_byte v) (bytes_eq (trim_ows v) v) h);
  trimmed = same_text (trim_ows v) v (and_right (list_all is_value_byte v) (bytes_eq (trim_ows v) v) h);
}

-- methods are a field's value
pub are_value : (code : ℕ) (allow : Option (List ℕ)) → IsAllow code allow → IfSome allow IsFieldValue
are_value code None is = tt
are_value code (Some m) is = value_of m (listed is_value method_lists m all_are_values is.1)

-- the test of code
pub allowed : (code : ℕ) (value : Option (List ℕ)) → is_allowed code (methods_in value) ≡ true → IsAllow code (methods_in value)
allowed code value h = by (methods_in value) refl h
  where
    in_list : (v : Option (List ℕ)) (m : List ℕ) → methods_in v ≡ Some m → list_any (λ x. bytes_eq x m) method_lists ≡ true
    in_list None m e = cc
    in_list (Some v) m e = found_listed (is_text v) method_lists m e

    by : (o : Option (List ℕ)) → methods_in value ≡ o → is_allowed code o ≡ true → IsAllow code o
    by None e h = λ is. true≢false (sym h ∙ ap (λ n. not (n == 405)) is)
    by (Some m) e h = (eqb-true code 405 h, in_list value m e)

pub allow_passes : (code : ℕ) (allow : Option (List ℕ)) → IsAllow code allow → is_allowed code allow ≡ true
allow_passes code None is = by (code == 405) refl
  where
    by : (t : Bool) → (code == 405) ≡ t → not t ≡ true
    by true e = absurd (is (eqb-true code 405 e))
    by false e = refl
allow_passes code (Some m) is = ap (λ n. n == 405) is.0

methods_stay : (code : ℕ) (allow : Option (List ℕ)) → IsAllow code allow → methods_in allow ≡ allow
methods_stay code None is = refl
methods_stay code (Some m) is = find_self method_lists m is.1

-- ---- fields

find_four : (name : List ℕ) (a b c d : List Named) → find (is_named name) (((a ++ b) ++ c) ++ d)
    ≡ option_or (option_or (option_or (find (is_named name) a) (find (is_named name) b)) (find (is_named name) c)) (find (is_named name) d)
find_four name a b c d =
    find-append (is_named name) ((a ++ b) ++ c) d
    ∙ ap (λ o. option_or o (find (is_named name) d)) (find-append (is_named name) (a ++ b) c ∙ ap (λ o. option_or o (find (is_named name) c)) (find-append (is_named name) a b))

module _ (code : ℕ) (close : Bool) (allow : Option (List ℕ)) (body : List ℕ) where
  no_body : (name : List ℕ) → bytes_eq (codes "Content-Type") name ≡ false → bytes_eq (codes "Content-Length") name ≡ false → find (is_named name) (body_fields code (length body)) ≡ None
  no_body name one two = by (code == 204)
    where
      by : (t : Bool) → find (is_named name) (if t then [] else (codes "Content-Type", codes "application/json") ∷ (codes "Content-Length", decimal (length body)) ∷ []) ≡ None
      by true = refl
      by false = ap (λ t. if t then Some (codes "Content-Type", codes "application/json") else (if bytes_eq (codes "Content-Length") name then Some (codes "Content-Length", decimal (length body)) else None)) one ∙ ap (λ t. if t then Some (codes "Content-Length", decimal (length body)) else None) two

  no_caller : (name : List ℕ) → bytes_eq (codes "WWW-Authenticate") name ≡ false → find (is_named name) (caller_fields code) ≡ None
  no_caller name one = by (code == 401)
    where
      by : (t : Bool) → find (is_named name) (if t then (codes "WWW-Authenticate", codes "Keystone") ∷ [] else []) ≡ None
      by true = ap (λ t. if t then Some (codes "WWW-Authenticate", codes "Keystone") else None) one
      by false = refl

  no_methods : (o : Option (List ℕ)) → find (is_named (codes "Connection")) (allow_fields code o) ≡ None
  no_methods None = refl
  no_methods (Some m) = by (code == 405)
    where
      by : (t : Bool) → find (is_named (codes "Connection")) (if t then (codes "Allow", m) ∷ [] else []) ≡ None
      by true = refl
      by false = refl

  no_close : (t : Bool) → find (is_named (codes "Allow")) (close_fields t) ≡ None
  no_close true = refl
  no_close false = refl

  says_close : (t : Bool) → is_some (option_map (λ (f : Named). f.1) (find (is_named (codes "Connection")) (close_fields t))) ≡ t
  says_close true = refl
  says_close false = refl

  pub close_said : is_some (field_named (codes "Connection") (fields_of code close allow body)) ≡ close
  close_said =
      let name = codes "Connection" in
      let d = find (is_named name) (close_fields close) in
      ap (λ o. is_some (option_map (λ (f : Named). f.1) o)) (find_four name (body_fields code (length body)) (allow_fields code allow) (caller_fields code) (close_fields close)
      ∙ ap (λ o. option_or (option_or (option_or o (find (is_named name) (allow_fields code allow))) (find (is_named name) (caller_fields code))) d) (no_body name refl refl)
      ∙ ap (λ o. option_or (option_or o (find (is_named name) (caller_fields code))) d) (no_methods allow)
      ∙ ap (λ o. option_or o d) (no_caller name refl))
      ∙ says_close close

  methods_said : (o : Option (List ℕ)) → IsAllow code o → option_map (λ (f : Named). f.1) (option_or (find (is_named (codes "Allow")) (allow_fields code o)) None) ≡ o
  methods_said None is = refl
  methods_said (Some m) is = ap (λ n. option_map (λ (f : Named). f.1) (option_or (find (is_named (codes "Allow")) (allow_fields n (Some m))) None)) is.0

  pub allow_said : IsAllow code allow → methods_in (field_named (codes "Allow") (fields_of code close allow body)) ≡ allow
  allow_said is =
      let name = codes "Allow" in
      let b = find (is_named name) (allow_fields code allow) in
      ap (λ o. methods_in (option_map (λ (f : Named). f.1) o)) (find_four name (body_fields code (length body)) (allow_fields code allow) (caller_fields code) (close_fields close)
      ∙ ap (λ o. option_or (option_or (option_or o b) (find (is_named name) (caller_fields code))) (find (is_named name) (close_fields close))) (no_body name refl refl)
      ∙ ap (λ o. option_or (option_or b o) (find (is_named name) (close_fields close))) (no_caller name refl)
      ∙ ap (λ o. option_or (option_or b None) o) (no_close close)
      ∙ or_none b)
      ∙ ap methods_in (methods_said allow is)
      ∙ methods_stay code allow is
    where
      or_none : (o : Option Named) → option_or (option_or o None) None ≡ option_or o None
      or_none None = refl
      or_none (Some x) = refl

-- ---- how many there are

short : (t : Bool) (xs : List Named) (most : ℕ) → length xs ≤ most → length (if t then [] else xs) ≤ most
short true xs most h = omega arith
short false xs most h = h

short_then : (t : Bool) (xs : List Named) (most : ℕ) → length xs ≤ most → length (if t then xs else []) ≤ most
short_then true xs most h = h
short_then false xs most h = omega arith

few_methods : (code : ℕ) (allow : Option (List ℕ)) → length (allow_fields code allow) ≤ 1
few_methods code None = omega arith
few_methods code (Some m) = short_then (code == 405) ((codes "Allow", m) ∷ []) 1 (omega arith)

pub few_fields : (code : ℕ) (close : Bool) (allow : Option (List ℕ)) (body : List ℕ) → length (fields_of code close allow body) ≤ 5
few_fields code close allow body =
    let a = body_fields code (length body) in
    let b = allow_fields code allow in
    let c = caller_fields code in
    let d = close_fields close in
    let one : length a ≤ 2 = short (code == 204) ((codes "Content-Type", codes "application/json") ∷ (codes "Content-Length", decimal (length body)) ∷ []) 2 (omega arith) in
    let two = few_methods code allow in
    let three : length c ≤ 1 = short_then (code == 401) ((codes "WWW-Authenticate", codes "Keystone") ∷ []) 1 (omega arith) in
    let four : length d ≤ 1 = short_then close ((codes "Connection", codes "close") ∷ []) 1 (omega arith) in
    let sum = length-append ((a ++ b) ++ c) d in
    let inner = length-append (a ++ b) c in
    let first = length-append a b in
    omega (arith, one, two, three, four, sum, inner, first)
