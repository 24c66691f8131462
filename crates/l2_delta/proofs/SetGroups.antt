-- Which groups a change may touch: what filters name after edits, and the numbers of the groups that
-- edits of filters and ports name.
use Rattle.std.proofs.Common.{◌≡◌, ◌∙◌, ℕ, suc, List, [], ◌∷◌, ◌++◌, drop, flat_map, length, map, slice_get, take, Option, Some, None, Bool, true, false, refl, sym, ap, arith}
use Rattle.std.specs.Prelude.{◌&&◌, ◌||◌, ◌==◌, if◌then◌else◌, insert, nat_lt, option_and_then, option_map, remove}
use Rattle.std.specs.List.{cons_option, filter_map, list_any}
use Rattle.std.proofs.lemmas.Bool.{eqb-true}
use Rattle.std.proofs.lemmas.Bool.Decides.{nat_tests}
use Rattle.std.proofs.lemmas.List.{drop-map, map-append, take-append-drop, take-map}
use Rattle.api_types.specs.Ident.{Ident}
use Rattle.api_types.specs.Members.{names_group}
use Rattle.api_types.specs.Table.{ident_eq}
use Rattle.api_types.specs.declared.group.GroupRow.{GroupRow}
use Rattle.api_types.specs.declared.port.PortRow.{PortRow}
use Rattle.api_types.proofs.ListLemmas.{and_both, any-remove_other, false_true, or_none, or_true}
use Rattle.api_types.proofs.NameLemmas.{by_test, ident_same}
use Rattle.plane_types.specs.Edits.{with_edit, with_edits, with_put}
use Rattle.plane_types.specs.Keyed.{are_one}
use Rattle.plane_types.specs.TableRows.{names_remote}
use Rattle.plane_types.specs.declared.delta.Edit.{Edit}
use Rattle.plane_types.specs.declared.table.FilterRow.{FilterRow}
use Rattle.plane_types.proofs.KeyedLemmas.{one_itself}
use Rattle.plane_types.proofs.NumberedLemmas.{number_order}
use Rattle.table_edits.specs.EditsAt.{among}
use Rattle.table_edits.specs.NumbersSeen.{OthersStay, Renumbered}
use Rattle.l2_delta.specs.SetKeys.{group_number, is_remote, with_remote, with_remotes}
use Rattle.l2_delta.specs.TouchedSets.{AreNamedAlike, AreTouched, AreTouchedSets, any_names, remotes_of}
use Rattle.l2_delta.proofs.SetPorts.{among_append}

-- ---- filters after edits

abbrev pub remote_of : FilterRow → Option Ident
remote_of r = r.remote_group

removed : (rs : List FilterRow) (i : ℕ) → remove (map remote_of rs) i ≡ map remote_of (remove rs i)
removed rs i = (λ j. take-map remote_of i rs j ++ drop-map remote_of (suc i) rs j) ∙ sym (map-append remote_of (take i rs) (drop (suc i) rs))

inserted : (rs : List FilterRow) (i : ℕ) (o : Option FilterRow) → with_put (map remote_of rs) i (option_map remote_of o) ≡ map remote_of (with_put rs i o)
inserted rs i None = refl
inserted rs i (Some r) = (λ j. take-map remote_of i rs j ++ remote_of r ∷ drop-map remote_of i rs j) ∙ sym (map-append remote_of (take i rs) (r ∷ drop i rs))

edited : (rs : List FilterRow) (e : Edit FilterRow) → with_remote (map remote_of rs) e ≡ map remote_of (with_edit rs e)
edited rs e = ap (λ l. with_put l e.place (option_map remote_of e.put)) (go e.out) ∙ inserted (if e.out then remove rs e.place else rs) e.place e.put
  where
    go : (b : Bool) → (if b then remove (map remote_of rs) e.place else map remote_of rs) ≡ map remote_of (if b then remove rs e.place else rs)
    go true = removed rs e.place
    go false = refl

pub all_edited : (rs : List FilterRow) (es : List (Edit FilterRow)) → with_remotes (map remote_of rs) es ≡ map remote_of (with_edits rs es)
all_edited rs [] = refl
all_edited rs (e ∷ es) = ap (λ l. with_remotes l es) (edited rs e) ∙ all_edited (with_edit rs e) es

-- ---- what no longer is named, and what is named from now on

any_append : (test : Option Ident → Bool) (xs ys : List (Option Ident)) → list_any test (xs ++ ys) ≡ list_any test xs || list_any test ys
any_append test [] ys = refl
any_append test (x ∷ xs) ys = ap (λ b. test x || b) (any_append test xs ys) ∙ turned (test x) (list_any test xs) (list_any test ys)
  where
    turned : (a b c : Bool) → a || (b || c) ≡ (a || b) || c
    turned true b c = refl
    turned false b c = refl

pub still_without : (remotes : List (Option Ident)) (i : ℕ) (o : Option Ident) (g : Ident) → slice_get remotes i ≡ Some o → names_remote g o ≡ false → is_remote remotes g ≡ is_remote (remove remotes i) g
still_without remotes i o g at off = sym (any-remove_other (names_remote g) remotes i o at off)

pub still_with : (remotes : List (Option Ident)) (i : ℕ) (o : Option Ident) (g : Ident) → names_remote g o ≡ false → is_remote remotes g ≡ is_remote (insert remotes i o) g
still_with remotes i o g off =
    ap (list_any (names_remote g)) (sym (take-append-drop i remotes))
    ∙ any_append (names_remote g) (take i remotes) (drop i remotes)
    ∙ ap (λ b. list_any (names_remote g) (take i remotes) || (b || list_any (names_remote g) (drop i remotes))) (sym off)
    ∙ sym (any_append (names_remote g) (take i remotes) (o ∷ drop i remotes))

-- a group whose number isn't among those that were added isn't the one whose number was
pub not_added : (groups : List GroupRow) (numbers : List ℕ) (o : Option Ident) (n : ℕ) (g : Ident) → among nat_lt n (numbers ++ cons_option (option_and_then (group_number groups) o) []) ≡ false → group_number groups g ≡ Some n → names_remote g o ≡ false
not_added groups numbers None n g away at = refl
not_added groups numbers (Some x) n g away at = by_test (ident_eq g x) (ident_eq g x ≡ false)
    (λ same.
    let its : group_number groups x ≡ Some n = ap (group_number groups) (sym (ident_same g x same)) ∙ at in
    let there : among nat_lt n (numbers ++ cons_option (group_number groups x) []) ≡ true =
    ap (λ k. among nat_lt n (numbers ++ cons_option k [])) its
    ∙ among_append nat_lt n numbers (n ∷ [])
    ∙ ap (λ b. among nat_lt n numbers || (b || false)) (one_itself nat_lt number_order n)
    ∙ or_true (among nat_lt n numbers) in
    false_true _ (sym away ∙ there))
    (λ off. off)

-- nor are fewer numbers
pub among_fewer : (n : ℕ) (numbers more : List ℕ) → among nat_lt n (numbers ++ more) ≡ false → among nat_lt n numbers ≡ false
among_fewer n numbers more away = (or_none (among nat_lt n numbers) (among nat_lt n more) (sym (among_append nat_lt n numbers more) ∙ away)).0

-- ---- groups that ports name

cons_fewer : (n : ℕ) (o : Option ℕ) (numbers : List ℕ) → among nat_lt n (cons_option o numbers) ≡ false → among nat_lt n numbers ≡ false
cons_fewer n None numbers h = h
cons_fewer n (Some m) numbers h = (or_none (are_one nat_lt n m) (among nat_lt n numbers) h).1

unlisted : (groups : List GroupRow) (ids : List Ident) (n : ℕ) (g : Ident) → among nat_lt n (filter_map (group_number groups) ids) ≡ false → group_number groups g ≡ Some n → names_group g ids ≡ false
unlisted groups [] n g away at = refl
unlisted groups (i ∷ ids) n g away at = by_test (ident_eq g i) (names_group g (i ∷ ids) ≡ false)
    (λ same.
    let its : group_number groups i ≡ Some n = ap (group_number groups) (sym (ident_same g i same)) ∙ at in
    let rest = filter_map (group_number groups) ids in
    false_true _ (sym away ∙ (ap (λ k. among nat_lt n (cons_option k rest)) its ∙ ap (λ b. b || among nat_lt n rest) (one_itself nat_lt number_order n))))
    (λ off. ap (λ b. b || names_group g ids) off ∙ unlisted groups ids n g (cons_fewer n (group_number groups i) (filter_map (group_number groups) ids) away) at)

abbrev pub numbers_named : List GroupRow → List PortRow → List ℕ
numbers_named groups ports = flat_map (λ (p : PortRow). filter_map (group_number groups) p.groups) ports

unnamed : (groups : List GroupRow) (ports : List PortRow) (n : ℕ) (g : Ident) → among nat_lt n (numbers_named groups ports) ≡ false → group_number groups g ≡ Some n → any_names ports g ≡ false
unnamed groups [] n g away at = refl
unnamed groups (p ∷ ports) n g away at =
    let here = filter_map (group_number groups) p.groups in
    let both = or_none (among nat_lt n here) (among nat_lt n (numbers_named groups ports)) (sym (among_append nat_lt n here (numbers_named groups ports)) ∙ away) in
    ap (λ b. b || any_names ports g) (unlisted groups p.groups n g both.0 at) ∙ unnamed groups ports n g both.1 at

same_number : (n m : ℕ) → are_one nat_lt n m ≡ (m == n)
same_number n m = grind (arith, nat_tests)

any_number : (n : ℕ) (numbers : List ℕ) → among nat_lt n numbers ≡ list_any (λ m. m == n) numbers
any_number n [] = refl
any_number n (m ∷ numbers) = λ j. same_number n m j || any_number n numbers j

-- so: what is told of each number that isn't among these
pub touched : (groups : Renumbered GroupRow) (named : List ℕ) → OthersStay groups named → (were are : List PortRow) (old new : List (Option Ident)) (first edited all : List ℕ)
    → first ≡ (named ++ numbers_named groups.rows were) ++ numbers_named groups.rows are → ((n : ℕ) → among nat_lt n edited ≡ false → among nat_lt n first ≡ false)
    → AreNamedAlike groups.rows edited (is_remote old) (is_remote new) → ((n : ℕ) → among nat_lt n all ≡ among nat_lt n edited) → AreTouched groups were are old new all
touched groups named others were are old new first edited all first_is fewer alike same = record {
  stay = λ n away. others n (sym (any_number n named) ∙ (parts n away).0);
  unnamed = λ n g away at. unnamed groups.rows were n g (parts n away).1 at;
  unnamed_after = λ n g away at. unnamed groups.rows are n g (parts n away).2 at;
  alike = λ n g away at. alike n g (sym (same n) ∙ away) at;
}
  where
    parts : (n : ℕ) → among nat_lt n all ≡ false → (among nat_lt n named ≡ false) × (among nat_lt n (numbers_named groups.rows were) ≡ false) × (among nat_lt n (numbers_named groups.rows are) ≡ false)
    parts n away =
        let by_were = named ++ numbers_named groups.rows were in
        let none : among nat_lt n (by_were ++ numbers_named groups.rows are) ≡ false = ap (among nat_lt n) (sym first_is) ∙ fewer n (sym (same n) ∙ away) in
        let last = or_none (among nat_lt n by_were) (among nat_lt n (numbers_named groups.rows are)) (sym (among_append nat_lt n by_were (numbers_named groups.rows are)) ∙ none) in
        let first = or_none (among nat_lt n named) (among nat_lt n (numbers_named groups.rows were)) (sym (among_append nat_lt n named (numbers_named groups.rows were)) ∙ last.0) in
        (first.0, first.1, last.1)

-- nothing is touched, where the change has no group and no port and filters aren't edited
none_of : {X : Type 0} (xs : List X) → (length xs == 0) ≡ true → xs ≡ []
none_of [] h = refl
none_of (x ∷ xs) h = let bad : length (x ∷ xs) ≡ 0 = eqb-true (length (x ∷ xs)) 0 h in absurd (omega (arith, bad))

pub none_touched : {X : Type 0} (groups : Renumbered GroupRow) (named : List ℕ) → OthersStay groups named → (filters : List FilterRow) (edits : List (Edit FilterRow)) (row : X → PortRow) (were are : List X)
    → ((length named == 0) && (length edits == 0)) && (length were == 0) && (length are == 0) ≡ true → AreTouchedSets groups filters edits (map row were) (map row are) []
none_touched groups named others filters edits row were are h =
    let last = and_both (((length named == 0) && (length edits == 0)) && (length were == 0)) (length are == 0) h in
    let next = and_both ((length named == 0) && (length edits == 0)) (length were == 0) last.0 in
    let first = and_both (length named == 0) (length edits == 0) next.0 in
    let no_edits : edits ≡ [] = none_of edits first.1 in
    record {
      numbers = [];
      touched = record {
        stay = λ n away. others n (ap (list_any (λ m. m == n)) (none_of named first.0));
        unnamed = λ n g away at. ap (λ xs. any_names (map row xs) g) (none_of were next.1);
        unnamed_after = λ n g away at. ap (λ xs. any_names (map row xs) g) (none_of are last.1);
        alike = λ n g away at. ap (λ es. is_remote (with_remotes (remotes_of filters) es) g) (sym no_edits);
      };
      sets_are = refl;
    }
