-- What a caller sees can be shown.
use Rattle.std.proofs.Common.{◌≡◌, Bool, true, false, List, [], ◌∷◌, cond, refl}
use Rattle.std.specs.Prelude.{ℕ, ◌&&◌, ◌||◌, Some, is_some, option_map}
use Rattle.api_types.proofs.ListLemmas.{false_true}
use Rattle.api_types.specs.Ident.{Ident}
use Rattle.api_types.specs.Lists.{stands_so}
use Rattle.api_types.specs.RowLists.{RowLists}
use Rattle.api_types.specs.Table.{ident_eq, row_of}
use Rattle.api_types.specs.declared.call.Caller.{Caller}
use Rattle.api_types.specs.declared.kind.Kind.{Kind}
use Rattle.api_types.specs.declared.kind.Kind.TheVariants.{Floating, Group, Network, Policy, Port, Project, Router, Rule, Subnet}
use Rattle.api_policy.specs.Visibility.{sees_row}
use Rattle.api_policy.specs.Shown.{shown_at}

-- a row that stands is found, whatever it has to pass beside
found : {R X : Type 0} (id_of : R → Ident) (i : Ident) (test : R → Bool) (f : R → X) (rows : List R) → stands_so id_of i test rows ≡ true → is_some (option_map f (row_of id_of i rows)) ≡ true
found id_of i test f [] h = false_true _ h
found {R} {X} id_of i test f (r ∷ rows) h = go (ident_eq i (id_of r)) (test r) h (found id_of i test f rows)
  where
    go : (b c : Bool) → ((b && c) || stands_so id_of i test rows) ≡ true → (stands_so id_of i test rows ≡ true → is_some (option_map f (row_of id_of i rows)) ≡ true) → is_some (option_map f (cond b (Some r) (row_of id_of i rows))) ≡ true
    go true c h rest = refl
    go false c h rest = rest h

pub seen-shown : (rows : RowLists) (caller : Caller) (kind : Kind) (i : Ident) (fields : List (List ℕ)) → sees_row rows caller kind i ≡ true → is_some (shown_at rows caller kind i fields) ≡ true
seen-shown rows caller Project i fields h = false_true _ h
seen-shown rows caller Network i fields h = found (λ r. r.id) i _ _ rows.networks h
seen-shown rows caller Subnet i fields h = found (λ r. r.id) i _ _ rows.subnets h
seen-shown rows caller Port i fields h = found (λ r. r.id) i _ _ rows.ports h
seen-shown rows caller Group i fields h = found (λ r. r.id) i _ _ rows.groups h
seen-shown rows caller Rule i fields h = found (λ r. r.id) i _ _ rows.rules h
seen-shown rows caller Router i fields h = found (λ r. r.id) i _ _ rows.routers h
seen-shown rows caller Floating i fields h = found (λ r. r.id) i _ _ rows.floatings h
seen-shown rows caller Policy i fields h = found (λ r. r.id) i _ _ rows.policies h
