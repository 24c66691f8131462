-- A tenant is shown the same of a network wherever its footing is the same; nobody sees other subnets of one that is changed.
use Rattle.api_types.specs.WithRows.{put_in}
use Rattle.std.proofs.Common.{◌≡◌, ◌≤◌, List, Bool, Some, slice_get, ap, ◌∙◌, arith, map, ℕ}
use Rattle.std.specs.Prelude.{◌&&◌, ◌||◌, count_by, if◌then◌else◌}
use Rattle.std.specs.Str.{bytes_eq}
use Rattle.api_types.specs.Consistent.{IsConsistent}
use Rattle.api_types.specs.Ident.{Ident}
use Rattle.api_types.specs.RowLists.{RowLists}
use Rattle.api_types.specs.Sharing.{is_shared_with}
use Rattle.api_types.specs.Table.{ident_eq}
use Rattle.api_types.specs.declared.call.Caller.{Caller}
use Rattle.api_types.specs.declared.form.NetworkForm.{NetworkForm}
use Rattle.api_types.specs.declared.network.NetworkRow.{NetworkRow}
use Rattle.api_types.specs.declared.subnet.SubnetRow.{SubnetRow}
use Rattle.api_policy.specs.Visibility.{is_own, sees_subnet, uses_network}
use Rattle.api_policy.specs.Networks.{subnets_of}
use Rattle.plan_networks.specs.NetworkCalls.{changed_network}
use Rattle.api_types.proofs.ListLemmas.{one_row}
use Rattle.api_types.proofs.NameLemmas.{by_test, ident_itself}
use Rattle.apart_laws.proofs.ListLemmas.{any-each, any-map, filter-each}

abbrev with_changed : RowLists → NetworkRow → RowLists
with_changed rows r = record rows { networks = put_in (λ (q : NetworkRow). q.id) r rows.networks }

-- a network that is changed keeps its id and its project, so nobody sees other subnets
module _ (rows : RowLists) (c : IsConsistent rows) (k : ℕ) (n : NetworkRow) (at : slice_get rows.networks k ≡ Some n) (form : NetworkForm) where
  uses_kept : (project : List ℕ) (i : Ident) → uses_network (with_changed rows (changed_network form n)) project i ≡ uses_network rows project i
  uses_kept project i = any-map uses change rows.networks ∙ any-each (λ m. uses (change m)) uses rows.networks (λ l m at_m. by_test (ident_eq n.id m.id) (uses (change m) ≡ uses m)
      (λ passes. ap (λ (b : Bool). uses (if b then changed_network form n else m)) passes ∙ ap uses (one_row (λ (r : NetworkRow). ident_eq n.id r.id) rows.networks once k l n m at at_m (ident_itself n.id) passes))
      (λ fails. ap (λ (b : Bool). uses (if b then changed_network form n else m)) fails))
    where
      uses : NetworkRow → Bool
      uses m = ident_eq i m.id && (bytes_eq m.project project || is_shared_with rows.policies m.id project)

      change : NetworkRow → NetworkRow
      change m = if ident_eq n.id m.id then changed_network form n else m

      once : count_by (λ (r : NetworkRow). ident_eq n.id r.id) rows.networks ≤ 1
      once = omega (arith, c.numbered.ids n.id)

  pub subnets_kept : (caller : Caller) (i : Ident) → subnets_of (with_changed rows (changed_network form n)) caller i ≡ subnets_of rows caller i
  subnets_kept caller i = ap (map (λ (r : SubnetRow). r.id)) (filter-each (λ (r : SubnetRow). ident_eq i r.network && sees_subnet (with_changed rows (changed_network form n)) caller r)
      (λ (r : SubnetRow). ident_eq i r.network && sees_subnet rows caller r) rows.subnets
      (λ l r at_r. ap (λ b. ident_eq i r.network && (is_own caller r.project || b)) (uses_kept caller.project r.network)))
