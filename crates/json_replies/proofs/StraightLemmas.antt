-- Where names ascend, members as they stand are the object's members.
use Rattle.std.proofs.Common.{◌≡◌, ℕ, List, [], ◌∷◌, map, length, Bool, true, false, ◌&&◌, Option, Some, None, Ordering, Less, Equal, Greater, nat_cmp, suc, refl, sym, ap, ◌∙◌, true≢false}
use Rattle.std.specs.Prelude.{⊤}
use Rattle.std.proofs.lemmas.Cmp.{nat_list_cmp_total}
use Rattle.std.specs.Ordering.{is_lt, ordering_reverse}
use Rattle.std.specs.Cmp.Lexicographic.{slice_cmp}
use Rattle.serde_json.specs.Data as json
use Rattle.serde_json.specs.Data.{Data, put}
use Rattle.serde_json.specs.Events.{items_len, members_len}
use Rattle.api_types.specs.Printed.{Tree, null, truth, number, word, items, object, Trees, no_trees, tree, Branches, no_branches, branch, trees_of, branches_of, NamedTree}
use Rattle.json_trees.specs.Printed.{tree_data, trees_data, branches_data}
use Rattle.json_replies.specs.Straight.{straight, straight_items, straight_members, ascends, trees_ascend, branches_ascend, is_above}

and_left : (a b : Bool) → (a && b) ≡ true → a ≡ true
and_left true b h = refl
and_left false b h = h

and_right : (a b : Bool) → (a && b) ≡ true → b ≡ true
and_right true b h = h
and_right false b h = absurd (true≢false (sym h))

less_of : (o : Ordering) → is_lt o ≡ true → o ≡ Less
less_of Less h = refl
less_of Equal h = absurd (true≢false (sym h))
less_of Greater h = absurd (true≢false (sym h))

-- some members, and then others
abbrev onto : json.Members → json.Members → json.Members
onto json.no_members more = more
onto (json.member k d ms) more = json.member k d (onto ms more)

onto_onto : (a b c : json.Members) → onto (onto a b) c ≡ onto a (onto b c)
onto_onto json.no_members b c = refl
onto_onto (json.member k d ms) b c = ap (json.member k d) (onto_onto ms b c)

onto_nothing : (ms : json.Members) → ms ≡ onto ms json.no_members
onto_nothing json.no_members = refl
onto_nothing (json.member k d ms) = ap (json.member k d) (onto_nothing ms)

-- all names come before k
abbrev AllBefore : json.Members → List ℕ → Type 0
AllBefore json.no_members k = ⊤
AllBefore (json.member l e ms) k = (slice_cmp nat_cmp l k ≡ Less) × AllBefore ms k

put_last : (k : List ℕ) (d : Data) (ms : json.Members) → AllBefore ms k → put k d ms ≡ onto ms (json.member k d json.no_members)
put_last k d json.no_members h = refl
put_last k d (json.member l e ms) h =
    let above : slice_cmp nat_cmp k l ≡ Greater = nat_list_cmp_total.antisymm k l ∙ ap ordering_reverse h.0 in
    rw above (ap (json.member l e) (put_last k d ms h.1))

all_before_next : (ms : json.Members) (n k : List ℕ) (d : Data) → AllBefore ms n → slice_cmp nat_cmp n k ≡ Less → AllBefore (onto ms (json.member n d json.no_members)) k
all_before_next json.no_members n k d h less = (less, tt)
all_before_next (json.member l e ms) n k d h less = (nat_list_cmp_total.trans l n k h.0 less, all_before_next ms n k d h.1 less)

-- what comes after the last name comes after all
abbrev IsAfter : json.Members → Option (List ℕ) → Type 0
IsAfter ms last = (k : List ℕ) → is_above last k ≡ true → AllBefore ms k

mutual
  pub straight_data : (t : Tree) → ascends t ≡ true → tree_data t ≡ straight t
  straight_data null h = refl
  straight_data (truth b) h = refl
  straight_data (number n) h = refl
  straight_data (word text) h = refl
  straight_data (items ts) h = ap json.array (straight_all ts h)
  straight_data (object bs) h = ap json.object (straight_beside bs json.no_members None (λ k above. tt) h)

  straight_all : (ts : Trees) → trees_ascend ts ≡ true → trees_data ts ≡ straight_items ts
  straight_all no_trees h = refl
  straight_all (tree t ts) h = rw (straight_data t (and_left _ _ h)) (ap (json.item (straight t)) (straight_all ts (and_right _ _ h)))

  straight_beside : (bs : Branches) (done : json.Members) (last : Option (List ℕ)) → IsAfter done last → branches_ascend last bs ≡ true → branches_data bs done ≡ onto done (straight_members bs)
  straight_beside no_branches done last after h = onto_nothing done
  straight_beside (branch name t bs) done last after h =
      let is_next = after name (and_left _ _ h) in
      let rest = and_right (is_above last name) (ascends t && branches_ascend (Some name) bs) h in
      let here : put name (tree_data t) done ≡ onto done (json.member name (straight t) json.no_members) = put_last name (tree_data t) done is_next ∙ ap (λ d. onto done (json.member name d json.no_members)) (straight_data t (and_left _ _ rest)) in
      ap (branches_data bs) here
      ∙ straight_beside bs (onto done (json.member name (straight t) json.no_members)) (Some name) (λ k above. all_before_next done name k (straight t) is_next (less_of _ above)) (and_right (ascends t) _ rest)
      ∙ onto_onto done _ _

pub items_count : {A : Type 0} → (f : A → Tree) (xs : List A) → items_len (straight_items (trees_of (map f xs))) ≡ length xs
items_count f [] = refl
items_count f (x ∷ xs) = ap suc (items_count f xs)

pub members_count : {A : Type 0} → (f : A → NamedTree) (xs : List A) → members_len (straight_members (branches_of (map f xs))) ≡ length xs
members_count f [] = refl
members_count f (x ∷ xs) = ap suc (members_count f xs)
