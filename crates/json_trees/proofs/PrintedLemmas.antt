-- Printed lists, and that no printed value has a float.
use Rattle.std.proofs.Common.{◌≡◌, ℕ, List, [], ◌∷◌, ◌++◌, ◌||◌, Bool, true, false, refl, ap, ◌∙◌, map, Ordering, Less, Equal, Greater, nat_cmp}
use Rattle.std.specs.Ordering.{match_ordering}
use Rattle.std.specs.Cmp.Lexicographic.{slice_cmp}
use Rattle.serde_json.specs.Data as json
use Rattle.serde_json.specs.Data.{Data, put}
use Rattle.serde_json.specs.View.{items_of}
use Rattle.serde_json.specs.Written.{has_float, items_have_float, members_have_float, compact_text}
use Rattle.api_types.specs.Printed.{Tree, null, truth, number, word, items, object, Trees, no_trees, tree, Branches, no_branches, branch, trees_of, NamedTree}
use Rattle.json_trees.specs.Printed.{tree_data, trees_data, branches_data, members_data}

-- items one by one
pub items_data : {A : Type 0} → (f : A → Tree) (xs : List A) → trees_data (trees_of (map f xs)) ≡ items_of (map (λ x. tree_data (f x)) xs)
items_data f [] = refl
items_data f (x ∷ xs) = ap (json.item (tree_data (f x))) (items_data f xs)

-- one more member
pub members_push : (ms : List NamedTree) (m : NamedTree) (others : json.Members) → members_data (ms ++ m ∷ []) others ≡ put m.0 (tree_data m.1) (members_data ms others)
members_push [] m others = refl
members_push (x ∷ ms) m others = members_push ms m (put x.0 (tree_data x.1) others)

put_at : (o : Ordering) (k l : List ℕ) (d e : Data) (ms : json.Members) → has_float d ≡ false → has_float e ≡ false → members_have_float ms ≡ false → members_have_float (put k d ms) ≡ false
    → members_have_float (match_ordering o (json.member k d (json.member l e ms)) (json.member l d ms) (json.member l e (put k d ms))) ≡ false
put_at Less k l d e ms p q r s = rw (p, q, r) refl
put_at Equal k l d e ms p q r s = rw (p, r) refl
put_at Greater k l d e ms p q r s = rw (q, s) refl

or_first : (a b : Bool) → (a || b) ≡ false → a ≡ false
or_first false b h = refl
or_first true b h = h

or_second : (a b : Bool) → (a || b) ≡ false → b ≡ false
or_second false b h = h
or_second true false h = refl
or_second true true h = h

put_no_float : (k : List ℕ) (d : Data) (ms : json.Members) → has_float d ≡ false → members_have_float ms ≡ false → members_have_float (put k d ms) ≡ false
put_no_float k d json.no_members p q = rw p refl
put_no_float k d (json.member l e ms) p q =
    let e_none = or_first (has_float e) (members_have_float ms) q in
    let ms_none = or_second (has_float e) (members_have_float ms) q in
    put_at (slice_cmp nat_cmp k l) k l d e ms p e_none ms_none (put_no_float k d ms p ms_none)

mutual
  pub tree_no_float : (t : Tree) → has_float (tree_data t) ≡ false
  tree_no_float null = refl
  tree_no_float (truth b) = refl
  tree_no_float (number n) = refl
  tree_no_float (word text) = refl
  tree_no_float (items ts) = trees_no_float ts
  tree_no_float (object bs) = branches_no_float bs json.no_members refl

  trees_no_float : (ts : Trees) → items_have_float (trees_data ts) ≡ false
  trees_no_float no_trees = refl
  trees_no_float (tree t ts) = rw (tree_no_float t) (trees_no_float ts)

  branches_no_float : (bs : Branches) (ms : json.Members) → members_have_float ms ≡ false → members_have_float (branches_data bs ms) ≡ false
  branches_no_float no_branches ms h = h
  branches_no_float (branch name t bs) ms h = branches_no_float bs (put name (tree_data t) ms) (put_no_float name (tree_data t) ms (tree_no_float t) h)

-- what is written of a printed value
pub written : (t : Tree) (d : Data) (text : List ℕ) → d ≡ tree_data t → (has_float d ≡ false → text ≡ compact_text d) → text ≡ compact_text (tree_data t)
written t d text is writes = writes (ap has_float is ∙ tree_no_float t) ∙ ap compact_text is
