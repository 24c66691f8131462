-- A reply as a reader of responses finds it.
use Rattle.std.proofs.Common.{◌≡◌, ℕ, ◌<◌, ◌^◌, ◌==◌, ◌&&◌, Bool, true, false, if◌then◌else◌, List, [], ◌∷◌, ◌++◌, length, map, reverse, codes, decimal, IsTrue, IfSome, All, lit<, lit≤, Option, Some, None, refl, sym, ap, ap₂, ◌∙◌, append_assoc, arith}
use Rattle.std.specs.List.{list_all, flat_map, AllByRecursion}
use Rattle.std.specs.Char.{is_ascii_digit}
use Rattle.std.specs.Str.{all_ascii_digits}
use Rattle.std.proofs.lemmas.List.Elements.{All-from_recursion}
use Rattle.std.proofs.lemmas.List.Sums.{AllPass-from_list_all, list_all-from_AllPass}
use Rattle.std.proofs.lemmas.Fmt.{digits_decimal}
use Rattle.std.proofs.lemmas.Str.Parse.{numerals_by_value, tells_all_ascii_digits}
use Rattle.std.proofs.lemmas.List.{reverse-reverse}
use Rattle.std.proofs.lemmas.Bool.Decides.{nat_tests}
use Rattle.httparse.specs.Grammar.{crlf, Field, IsField, IsToken, AllPass, is_token_byte, is_value_byte, is_ows, skip_ows, trim_ows, print_field, ResponseHead, print_response}
use Rattle.httparse.proofs.TrimLemmas.{AllPass-reverse}
use Rattle.httparse.specs.Spans.{name_and_value}
use Rattle.neutron_http.specs.Replies.{Named, line_end, field_line, field_lines, body_fields, allow_fields, caller_fields, close_fields, fields_of, phrase_of, body_of, reply_bytes, IsReplyCode, IsFieldValue, IsWholeReply}
use Rattle.neutron_http.proofs.ReplyCodes.{readable}

-- a field that a reader gives back as it was written
record IsFine (f : Named) : Type 0 where
  name : IsToken f.0
  value : IsFieldValue f.1

abbrev AllFine : List Named → Type 0
AllFine [] = Unit {0}
AllFine (f ∷ fs) = IsFine f × AllFine fs

AllFine-append : (xs ys : List Named) → AllFine xs → AllFine ys → AllFine (xs ++ ys)
AllFine-append [] ys a b = b
AllFine-append (x ∷ xs) ys a b = (a.0, AllFine-append xs ys a.1 b)

abbrev field_of : Named → Field
field_of f = record { name = f.0; raw = 32 ∷ f.1; end = crlf }

printed : (fs : List Named) → flat_map print_field (map field_of fs) ≡ field_lines fs
printed [] = refl
printed (f ∷ fs) = ap₂ (λ a b. a ++ b) (line f) (printed fs)
  where
    line : (f : Named) → print_field (field_of f) ≡ field_line f
    line f = ap (λ l. l ++ line_end) (sym (append_assoc f.0 (codes ": ") f.1))

trim_space : (v : List ℕ) → trim_ows (32 ∷ v) ≡ trim_ows v
unfolding trim_ows
trim_space v = refl

given_back : (fs : List Named) → AllFine fs → map name_and_value (map field_of fs) ≡ fs
given_back [] fine = refl
given_back (f ∷ fs) fine = ap₂ (λ v l. (f.0, v) ∷ l) (trim_space f.1 ∙ fine.0.value.trimmed) (given_back fs fine.1)

space_first : (v : List ℕ) → AllPass is_value_byte v → AllPass is_value_byte (32 ∷ v)
space_first v h = AllPass-from_list_all is_value_byte (32 ∷ v) (list_all-from_AllPass is_value_byte v h)

are_fields : (fs : List Named) → AllFine fs → All IsField (map field_of fs)
are_fields fs fine = All-from_recursion IsField (map field_of fs) (each fs fine)
  where
    each : (fs : List Named) → AllFine fs → AllByRecursion IsField (map field_of fs)
    each [] fine = tt
    each (f ∷ fs) fine = (record { name = fine.0.name; raw = space_first f.1 fine.0.value.bytes }, each fs fine.1)

and_left : (a b : Bool) → IsTrue (a && b) → IsTrue a
and_left true b h = refl
and_left false b h = absurd (cc)

and_right : (a b : Bool) → IsTrue (a && b) → IsTrue b
and_right true b h = h
and_right false b h = absurd (cc)

and_both : (a b : Bool) → IsTrue a → IsTrue b → IsTrue (a && b)
and_both true b h k = k
and_both false b h k = absurd (cc)

-- a text of digits has no white space and no control byte
digit_value : (b : ℕ) → IsTrue (is_ascii_digit b) → IsTrue (is_value_byte b)
digit_value b h = grind (arith, nat_tests)

digit_ows : (b : ℕ) → IsTrue (is_ascii_digit b) → is_ows b ≡ false
digit_ows b h = grind (arith, nat_tests)

all_value : (ds : List ℕ) → IsTrue (all_ascii_digits ds) → IsTrue (list_all is_value_byte ds)
all_value [] h = refl
all_value (d ∷ ds) h = and_both _ _ (digit_value d (and_left _ _ h)) (all_value ds (and_right _ _ h))

first_stays : (ds : List ℕ) → IsTrue (all_ascii_digits ds) → skip_ows ds ≡ ds
first_stays [] h = refl
first_stays (d ∷ ds) h = by (is_ows d) (digit_ows d (and_left _ _ h))
  where
    by : (t : Bool) → t ≡ false → (if t then skip_ows ds else d ∷ ds) ≡ d ∷ ds
    by true e = absurd (cc)
    by false e = refl

backwards : (ds : List ℕ) → IsTrue (all_ascii_digits ds) → IsTrue (all_ascii_digits (reverse ds))
backwards ds h = list_all-from_AllPass is_ascii_digit (reverse ds) (AllPass-reverse is_ascii_digit ds (AllPass-from_list_all is_ascii_digit ds h))

is_value_decimal : (n : ℕ) → n < 2 ^ 64 → IsFieldValue (decimal n)
unfolding trim_ows
is_value_decimal n small =
    let ds : IsTrue (all_ascii_digits (decimal n)) = digits_decimal (numerals_by_value (λ ds. all_ascii_digits ds ≡ true) tells_all_ascii_digits) n small in
    let back : IsTrue (all_ascii_digits (reverse (decimal n))) = backwards (decimal n) ds in
    record {
      bytes = AllPass-from_list_all is_value_byte (decimal n) (all_value (decimal n) ds);
      trimmed = ap (λ l. reverse (skip_ows (reverse l))) (first_stays (decimal n) ds) ∙ ap reverse (first_stays (reverse (decimal n)) back) ∙ reverse-reverse (decimal n);
    }

token : (name : List ℕ) → IsTrue (list_all is_token_byte name) → 0 < length name → IsToken name
token name all some = (some, AllPass-from_list_all is_token_byte name all)

literal : (v : List ℕ) → IsTrue (list_all is_value_byte v) → trim_ows v ≡ v → IsFieldValue v
literal v all trimmed = record { bytes = AllPass-from_list_all is_value_byte v all; trimmed = trimmed }

fine_body : (code n : ℕ) → n < 2 ^ 64 → AllFine (body_fields code n)
unfolding is_token_byte trim_ows
fine_body code n small = by (code == 204)
  where
    by : (t : Bool) → AllFine (if t then [] else (codes "Content-Type", codes "application/json") ∷ (codes "Content-Length", decimal n) ∷ [])
    by true = tt
    by false = (record { name = token (codes "Content-Type") refl (lit< tt); value = literal (codes "application/json") refl refl }, (record { name = token (codes "Content-Length") refl (lit< tt); value = is_value_decimal n small }, tt))

fine_caller : (code : ℕ) → AllFine (caller_fields code)
unfolding is_token_byte trim_ows
fine_caller code = by (code == 401)
  where
    by : (t : Bool) → AllFine (if t then (codes "WWW-Authenticate", codes "Keystone") ∷ [] else [])
    by true = (record { name = token (codes "WWW-Authenticate") refl (lit< tt); value = literal (codes "Keystone") refl refl }, tt)
    by false = tt

fine_close : (close : Bool) → AllFine (close_fields close)
unfolding is_token_byte trim_ows
fine_close true = (record { name = token (codes "Connection") refl (lit< tt); value = literal (codes "close") refl refl }, tt)
fine_close false = tt

fine_allow : (code : ℕ) (allow : Option (List ℕ)) → IfSome allow IsFieldValue → AllFine (allow_fields code allow)
unfolding is_token_byte
fine_allow code None h = tt
fine_allow code (Some methods) h = by (code == 405)
  where
    by : (t : Bool) → AllFine (if t then (codes "Allow", methods) ∷ [] else [])
    by true = (record { name = token (codes "Allow") refl (lit< tt); value = h }, tt)
    by false = tt

fine_fields : (code : ℕ) (close : Bool) (allow : Option (List ℕ)) (body : List ℕ) → length body < 2 ^ 64 → IfSome allow IsFieldValue → AllFine (fields_of code close allow body)
fine_fields code close allow body small h =
    AllFine-append _ _ (AllFine-append _ _ (AllFine-append _ _ (fine_body code (length body) small) (fine_allow code allow h)) (fine_caller code)) (fine_close close)

abbrev head_of : ℕ → List Named → ResponseHead
head_of code fields = record {
  blank = [];
  minor = 1;
  digits = decimal code;
  reason = Some (phrase_of code);
  line_end = crlf;
  fields = map field_of fields;
  last = crlf;
}

regroup : (h d p e l b : List ℕ) → h ++ d ++ (32 ∷ []) ++ p ++ e ++ l ++ e ++ b ≡ (((h ++ d) ++ (32 ∷ p)) ++ e) ++ (l ++ e) ++ b
regroup h d p e l b = simp append_assoc

bytes_of_head : (code : ℕ) (fields : List Named) (body : List ℕ)
    → codes "HTTP/1.1 " ++ decimal code ++ codes " " ++ phrase_of code ++ line_end ++ field_lines fields ++ line_end ++ body ≡ print_response (head_of code fields) ++ body
unfolding print_response
bytes_of_head code fields body =
    regroup (codes "HTTP/1.1 ") (decimal code) (phrase_of code) line_end (field_lines fields) body
    ∙ ap (λ l. (((codes "HTTP/1.1 " ++ decimal code) ++ (32 ∷ phrase_of code)) ++ line_end) ++ (l ++ line_end) ++ body) (sym (printed fields))

-- a reply is one whole head and its body
pub whole_reply : (code : ℕ) (close : Bool) (allow : Option (List ℕ)) (body : List ℕ) → IsReplyCode code → length body < 2 ^ 64 → IfSome allow IsFieldValue
    → IsWholeReply (reply_bytes code close allow body) code (fields_of code close allow body) (body_of code body)
whole_reply code close allow body is small h =
    let r = readable code is in
    let fields = fields_of code close allow body in
    let fine = fine_fields code close allow body small h in
    record {
      head = head_of code fields;
      reads = (
        record {
          minor = lit≤ tt;
          digits = (r.three, AllPass-from_list_all is_ascii_digit (decimal code) r.digits_are);
          reason = AllPass-from_list_all is_value_byte (phrase_of code) r.phrase;
          fields = are_fields fields fine;
        },
        bytes_of_head code fields (body_of code body),
      );
      minor = refl;
      code_is = r.value;
      phrase = refl;
      fields_are = given_back fields fine;
    }
