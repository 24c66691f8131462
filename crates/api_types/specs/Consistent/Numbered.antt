-- Projects are named and numbered in order, and each row has an id of its own that its project
-- drew.
use Rattle.std.specs.Prelude.{◌≡◌, ℕ, ◌+◌, ◌^◌, ◌<◌, ◌≤◌, ◌==◌, ◌&&◌, nat_le, not, Bool, List, Some, length, slice_get, count_by}
use Rattle.std.specs.List.{list_any}
use Rattle.net_addr.specs.Words.{Text}
use Rattle.api_types.specs.Ident.{Ident}
use Rattle.api_types.specs.Lists.{Pass, is_empty, times}
use Rattle.api_types.specs.Registration.{is_named}
use Rattle.api_types.specs.RowLists.{RowLists}
use Rattle.api_types.specs.declared.project.ProjectRow.{ProjectRow}

-- the k-th project has ordinal k, from 1 on, and a count of 62 bits
abbrev pub AreOrdered : List ProjectRow → Type 0
AreOrdered projects =
    (k : ℕ) (p : ProjectRow) → slice_get projects k ≡ Some p
    → (p.ordinal ≡ k + 1) × (p.count < 2 ^ 62)

-- the id's ordinal is a project's, and its count is from 1 to that project's count
abbrev pub is_drawn : List ProjectRow → Ident → Bool
is_drawn projects i =
    list_any (λ p. (p.ordinal == i.ordinal) && (nat_le 1 i.count && nat_le i.count p.count))
    projects

-- how many rows of all kinds but projects have this id
abbrev pub times_in : RowLists → Ident → ℕ
times_in rows i =
    times (λ r. r.id) i rows.networks + times (λ r. r.id) i rows.subnets
    + times (λ r. r.id) i rows.ports + times (λ r. r.id) i rows.groups
    + times (λ r. r.id) i rows.rules + times (λ r. r.id) i rows.routers
    + times (λ r. r.id) i rows.floatings + times (λ r. r.id) i rows.policies

pub record ProjectsDiffer (projects : List ProjectRow) : Type 0 where
  pub ordered : AreOrdered projects
  pub names : (name : Text) → count_by (is_named name) projects ≤ 1
  pub named : Pass (λ p. not (is_empty p.name)) projects
  pub few : length projects < 2 ^ 32

abbrev pub IdsDiffer : RowLists → Type 0
IdsDiffer rows = (i : Ident) → times_in rows i ≤ 1

pub record AreDrawn (rows : RowLists) : Type 0 where
  pub networks : Pass (λ r. is_drawn rows.projects r.id) rows.networks
  pub subnets : Pass (λ r. is_drawn rows.projects r.id) rows.subnets
  pub ports : Pass (λ r. is_drawn rows.projects r.id) rows.ports
  pub groups : Pass (λ r. is_drawn rows.projects r.id) rows.groups
  pub rules : Pass (λ r. is_drawn rows.projects r.id) rows.rules
  pub routers : Pass (λ r. is_drawn rows.projects r.id) rows.routers
  pub floatings : Pass (λ r. is_drawn rows.projects r.id) rows.floatings
  pub policies : Pass (λ r. is_drawn rows.projects r.id) rows.policies

pub record AreNumbered (rows : RowLists) : Type 0 where
  pub projects : ProjectsDiffer rows.projects
  pub ids : IdsDiffer rows
  pub drawn : AreDrawn rows
