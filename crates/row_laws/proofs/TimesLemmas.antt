-- How often an id is there with one more row, and that an id that no row has is found nowhere.
use Rattle.std.proofs.Common.{◌≡◌, ℕ, ◌+◌, List, [], ◌∷◌, ◌++◌, cond, None, arith}
use Rattle.std.proofs.lemmas.List.Sums.{sum_by_push}
use Rattle.api_types.specs.Ident.{Ident}
use Rattle.api_types.specs.Table.{ident_eq, row_of}
use Rattle.api_types.specs.Lists.{times}
use Rattle.api_types.specs.RowLists.{RowLists}
use Rattle.api_types.specs.Consistent.Numbered.{times_in}
use Rattle.row_laws.specs.Drawn.{IsAbsent}
use Rattle.row_laws.specs.NewRows.{with_network, with_subnet, with_port, with_group, with_rule, with_router, with_floating, with_policy}
use Rattle.api_types.specs.declared.network.NetworkRow.{NetworkRow}
use Rattle.api_types.specs.declared.subnet.SubnetRow.{SubnetRow}
use Rattle.api_types.specs.declared.port.PortRow.{PortRow}
use Rattle.api_types.specs.declared.group.GroupRow.{GroupRow}
use Rattle.api_types.specs.declared.group.RuleRow.{RuleRow}
use Rattle.api_types.specs.declared.router.RouterRow.{RouterRow}
use Rattle.api_types.specs.declared.floating.FloatingRow.{FloatingRow}
use Rattle.api_types.specs.declared.policy.PolicyRow.{PolicyRow}
use Rattle.api_types.proofs.ListLemmas.{none-counted}
use Rattle.api_types.proofs.IdLemmas.{none_found}

-- how often an id is there, with one more row
one_more : {R : Type 0} (id_of : R → Ident) (i : Ident) (xs : List R) (x : R) → times id_of i (xs ++ x ∷ []) ≡ times id_of i xs + cond {A = ℕ} (ident_eq i (id_of x)) 1 0
one_more id_of i xs x = sum_by_push (λ r. cond {A = ℕ} (ident_eq i (id_of r)) 1 0) xs x

module _ (rows : RowLists) (i : Ident) where
  pub times-network : (r : NetworkRow) → times_in (with_network rows r) i ≡ times_in rows i + cond {A = ℕ} (ident_eq i r.id) 1 0
  times-network r = omega (arith, one_more (λ x. x.id) i rows.networks r)

  pub times-subnet : (r : SubnetRow) → times_in (with_subnet rows r) i ≡ times_in rows i + cond {A = ℕ} (ident_eq i r.id) 1 0
  times-subnet r = omega (arith, one_more (λ x. x.id) i rows.subnets r)

  pub times-port : (r : PortRow) → times_in (with_port rows r) i ≡ times_in rows i + cond {A = ℕ} (ident_eq i r.id) 1 0
  times-port r = omega (arith, one_more (λ x. x.id) i rows.ports r)

  pub times-group : (r : GroupRow) → times_in (with_group rows r) i ≡ times_in rows i + cond {A = ℕ} (ident_eq i r.id) 1 0
  times-group r = omega (arith, one_more (λ x. x.id) i rows.groups r)

  pub times-rule : (r : RuleRow) → times_in (with_rule rows r) i ≡ times_in rows i + cond {A = ℕ} (ident_eq i r.id) 1 0
  times-rule r = omega (arith, one_more (λ x. x.id) i rows.rules r)

  pub times-router : (r : RouterRow) → times_in (with_router rows r) i ≡ times_in rows i + cond {A = ℕ} (ident_eq i r.id) 1 0
  times-router r = omega (arith, one_more (λ x. x.id) i rows.routers r)

  pub times-floating : (r : FloatingRow) → times_in (with_floating rows r) i ≡ times_in rows i + cond {A = ℕ} (ident_eq i r.id) 1 0
  times-floating r = omega (arith, one_more (λ x. x.id) i rows.floatings r)

  pub times-policy : (r : PolicyRow) → times_in (with_policy rows r) i ≡ times_in rows i + cond {A = ℕ} (ident_eq i r.id) 1 0
  times-policy r = omega (arith, one_more (λ x. x.id) i rows.policies r)

unfound : {R : Type 0} (id_of : R → Ident) (i : Ident) (xs : List R) → times id_of i xs ≡ 0 → row_of id_of i xs ≡ None
unfound id_of i xs h = none_found (λ r. ident_eq i (id_of r)) xs (none-counted (λ r. ident_eq i (id_of r)) xs h)

pub absent : (rows : RowLists) (i : Ident) → times_in rows i ≡ 0 → IsAbsent rows i
absent rows i none = record {
  networks = unfound (λ r. r.id) i rows.networks (omega (arith, none));
  subnets = unfound (λ r. r.id) i rows.subnets (omega (arith, none));
  ports = unfound (λ r. r.id) i rows.ports (omega (arith, none));
  groups = unfound (λ r. r.id) i rows.groups (omega (arith, none));
  rules = unfound (λ r. r.id) i rows.rules (omega (arith, none));
  routers = unfound (λ r. r.id) i rows.routers (omega (arith, none));
  floatings = unfound (λ r. r.id) i rows.floatings (omega (arith, none));
  policies = unfound (λ r. r.id) i rows.policies (omega (arith, none));
}
