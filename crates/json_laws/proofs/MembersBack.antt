-- Members of a printed object, by name.
use Rattle.std.proofs.Common.{◌≡◌, ℕ, Bool, true, false, List, [], ◌∷◌, Option, Some, None, option_map, refl, ap, ◌∙◌}
use Rattle.std.specs.Prelude.{if◌then◌else◌}
use Rattle.std.specs.Str.{bytes_eq}
use Rattle.std.proofs.lemmas.Slice.Eq.{bytes_eq-Decides}
use Rattle.serde_json.specs.Data.{Members, no_members, put}
use Rattle.serde_json.specs.Find.{get, get_member}
use Rattle.serde_json.proofs.Views.{get_member-put, get_member-put_other}
use Rattle.api_types.specs.Printed.{Tree, NamedTree, branches_of}
use Rattle.json_trees.specs.Printed.{tree_data, branches_data, fields}
use Rattle.json_laws.specs.ReadBack.{named_or, last_named}

next_found : (name k : List ℕ) (t : Tree) (others : Members) (found : Option Tree) (b : Bool) → bytes_eq name k ≡ b → get_member name others ≡ option_map tree_data found
    → get_member name (put k (tree_data t) others) ≡ option_map tree_data (if b then Some t else found)
next_found name k t others found true is e =
    let same : name ≡ k = (bytes_eq-Decides name k).0 is in
    ap (λ (n : List ℕ). get_member n (put k (tree_data t) others)) same ∙ get_member-put k (tree_data t) others
next_found name k t others found false is e =
    get_member-put_other name k (tree_data t) others (λ same. let p = (bytes_eq-Decides name k).1 same in absurd cc) ∙ e

behind : (name : List ℕ) (members : List NamedTree) (others : Members) (found : Option Tree) → get_member name others ≡ option_map tree_data found
    → get_member name (branches_data (branches_of members) others) ≡ option_map tree_data (named_or found name members)
behind name [] others found e = e
behind name (m ∷ members) others found e =
    behind name members (put m.0 (tree_data m.1) others) (if bytes_eq name m.0 then Some m.1 else found) (next_found name m.0 m.1 others found (bytes_eq name m.0) refl e)

pub members_found : (name : List ℕ) (members : List NamedTree) → get name (tree_data (fields members)) ≡ option_map tree_data (last_named name members)
members_found name members = behind name members no_members None refl
