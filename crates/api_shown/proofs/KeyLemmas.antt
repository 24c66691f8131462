-- What a key's value tells of filters.
use Rattle.std.proofs.Common.{◌≡◌, ◌∙◌, ℕ, Bool, true, false, List, [], ◌∷◌, Option, None, Some, cond, map, ap, refl}
use Rattle.std.specs.Prelude.{◌&&◌, ◌||◌, IfSome, codes}
use Rattle.std.specs.List.{filter, list_any}
use Rattle.std.specs.Str.{bytes_eq}
use Rattle.api_types.proofs.ListLemmas.{or_false, or_none}
use Rattle.api_types.proofs.NameLemmas.{and_fails, bytes_same}
use Rattle.api_types.specs.Ident.{Ident}
use Rattle.api_types.specs.Printed.{NamedTree, Tree}
use Rattle.api_policy.specs.Shown.{is_told}
use Rattle.api_policy.specs.Trees.{id_word}
use Rattle.api_shown.specs.Asked.{AskedName, asks_for, has_asked}
use Rattle.api_shown.specs.Keys.{FitsId, IsOnlyId, may_be, values_under}

-- where no value under the name is asked for, no member has one that is
none_under : (admin : Bool) (a : AskedName) (members : List NamedTree) → list_any (asks_for a) (values_under a.name members) ≡ false → has_asked admin members a ≡ false
none_under admin a [] h = refl
none_under admin a (m ∷ members) h = go (bytes_eq a.name m.0) h (none_under admin a members)
  where
    told : Bool
    told = is_told admin m.0

    named : List NamedTree
    named = filter (λ (n : NamedTree). bytes_eq a.name n.0) members

    values : List NamedTree → List Tree
    values = map (λ (n : NamedTree). n.1)

    go : (b : Bool) → list_any (asks_for a) (values (cond b (m ∷ named) named)) ≡ false → (list_any (asks_for a) (values named) ≡ false → has_asked admin members a ≡ false)
        → ((told && (b && asks_for a m.1)) || has_asked admin members a) ≡ false
    go true h onward =
        let both = or_none (asks_for a m.1) (list_any (asks_for a) (values named)) h in
        (λ j. (told && both.0 j) || onward both.1 j) ∙ or_false (told && false) ∙ and_fails told false refl
    go false h onward = (λ j. (told && false) || onward h j) ∙ or_false (told && false) ∙ and_fails told false refl

-- nor where the one value isn't asked for
not_held : (admin : Bool) (a : AskedName) (members : List NamedTree) (value : Tree) → values_under a.name members ≡ value ∷ [] → asks_for a value ≡ false → has_asked admin members a ≡ false
not_held admin a members value is fails = none_under admin a members (ap (list_any (asks_for a)) is ∙ ap (λ b. b || false) fails)

-- nor where the name is a key's, whose one value isn't asked for
pub key_fails : (admin : Bool) (a : AskedName) (members : List NamedTree) (name : List ℕ) (value : Tree) → bytes_eq a.name name ≡ true → values_under name members ≡ value ∷ [] → asks_for a value ≡ false → has_asked admin members a ≡ false
key_fails admin a members name value is under fails = not_held admin a members value (ap (λ n. values_under n members) (bytes_same a.name name is) ∙ under) fails

-- where the name is the id's, and one id may be asked for
pub only_asked : (a : AskedName) (asked : Option Ident) → bytes_eq a.name (codes "id") ≡ true → ((i : Ident) → FitsId i → may_be asked i ≡ false → asks_for a (id_word i) ≡ false)
    → IfSome asked (IsOnlyId (λ admin members. has_asked admin members a))
only_asked a None named unasked = tt
only_asked a (Some j) named unasked = λ i fits other admin members shown. key_fails admin a members (codes "id") (id_word i) named shown (unasked i fits other)
