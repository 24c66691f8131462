-- The lines of a reply.
use Rattle.std.proofs.Common.{◌≡◌, ℕ, ◌==◌, Bool, true, false, if◌then◌else◌, List, [], ◌∷◌, ◌++◌, length, codes, decimal, Option, Some, refl, sym, ap, ◌∙◌, append_assoc, append-nil}
use Rattle.std.proofs.lemmas.Bool.{eqb-true}
use Rattle.neutron_http.specs.Replies.{Named, line_end, field_line, field_lines, body_fields, allow_fields, caller_fields, close_fields, phrase_of, body_of, reply_bytes}

pub field_lines-append : (xs ys : List Named) → field_lines (xs ++ ys) ≡ field_lines xs ++ field_lines ys
field_lines-append [] ys = refl
field_lines-append (x ∷ xs) ys = ap (λ l. field_line x ++ l) (field_lines-append xs ys) ∙ sym (append_assoc (field_line x) (field_lines xs) (field_lines ys))

pub allow_lines : (code : ℕ) (allow : Option (List ℕ)) (methods : List ℕ) → allow ≡ Some methods → code ≡ 405
    → field_lines (allow_fields code allow) ≡ codes "Allow: " ++ (methods ++ line_end)
allow_lines code allow methods e f = rw e (rw f (append-nil (codes "Allow: " ++ (methods ++ line_end))))

pub body_lines : (code n : ℕ) → (code ≡ 204 → ⊥)
    → field_lines (body_fields code n) ≡ codes "Content-Type: application/json\r\nContent-Length: " ++ (decimal n ++ line_end)
body_lines code n other = by (code == 204) refl
  where
    by : (t : Bool) → (code == 204) ≡ t → field_lines (if t then [] else (codes "Content-Type", codes "application/json") ∷ (codes "Content-Length", decimal n) ∷ []) ≡ codes "Content-Type: application/json\r\nContent-Length: " ++ (decimal n ++ line_end)
    by true e = absurd (other (eqb-true code 204 e))
    by false e = append-nil (codes "Content-Type: application/json\r\nContent-Length: " ++ (decimal n ++ line_end))

lines_apart : (code n : ℕ) (close : Bool) (allow : Option (List ℕ)) → field_lines (body_fields code n ++ allow_fields code allow ++ caller_fields code ++ close_fields close)
    ≡ ((field_lines (body_fields code n) ++ field_lines (allow_fields code allow)) ++ field_lines (caller_fields code)) ++ field_lines (close_fields close)
lines_apart code n close allow =
    let a = body_fields code n in
    let b = allow_fields code allow in
    let k = caller_fields code in
    let l = close_fields close in
    field_lines-append ((a ++ b) ++ k) l ∙ ap (λ x. x ++ field_lines l) (field_lines-append (a ++ b) k ∙ ap (λ x. x ++ field_lines k) (field_lines-append a b))

regroup : (f a m k l e b : List ℕ) → f ++ a ++ m ++ k ++ l ++ e ++ b ≡ f ++ (((a ++ m) ++ k) ++ l) ++ e ++ b
regroup f a m k l e b = simp append_assoc

-- the pieces of a reply, one behind the other
pub joined : (code : ℕ) (close : Bool) (allow : Option (List ℕ)) (body : List ℕ) (out : List ℕ)
    → out ≡ codes "HTTP/1.1 " ++ decimal code ++ codes " " ++ phrase_of code ++ line_end ++ field_lines (body_fields code (length body)) ++ field_lines (allow_fields code allow)
    ++ field_lines (caller_fields code) ++ field_lines (close_fields close) ++ line_end ++ body_of code body
    → out ≡ reply_bytes code close allow body
joined code close allow body out e =
    let first = codes "HTTP/1.1 " ++ decimal code ++ codes " " ++ phrase_of code ++ line_end in
    e ∙ regroup first (field_lines (body_fields code (length body))) (field_lines (allow_fields code allow)) (field_lines (caller_fields code)) (field_lines (close_fields close)) line_end (body_of code body)
    ∙ ap (λ x. first ++ x ++ line_end ++ body_of code body) (sym (lines_apart code (length body) close allow))
