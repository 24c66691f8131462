-- Projects are named and numbered in order, and each row has an id of its own that its project
-- drew.
use Rattle.std.specs.Prelude.{ℕ, ◌+◌, ◌≤◌}
use Rattle.api_types.specs.Ident.{Ident}
use Rattle.api_types.specs.Lists.{Pass, times}
use Rattle.api_types.specs.Consistent.Numbered.{ProjectsDiffer, is_drawn}
use Rattle.old_rows.specs.OldLists.{OldLists}

-- how many rows of all kinds but projects have this id
abbrev pub times_in : OldLists → Ident → ℕ
times_in old i =
    times (λ r. r.id) i old.networks + times (λ r. r.id) i old.subnets
    + times (λ r. r.id) i old.ports + times (λ r. r.id) i old.groups
    + times (λ r. r.id) i old.rules + times (λ r. r.id) i old.routers
    + times (λ r. r.id) i old.floatings + times (λ r. r.id) i old.policies

pub record AreDrawn (old : OldLists) : Type 0 where
  pub networks : Pass (λ r. is_drawn old.projects r.id) old.networks
  pub subnets : Pass (λ r. is_drawn old.projects r.id) old.subnets
  pub ports : Pass (λ r. is_drawn old.projects r.id) old.ports
  pub groups : Pass (λ r. is_drawn old.projects r.id) old.groups
  pub rules : Pass (λ r. is_drawn old.projects r.id) old.rules
  pub routers : Pass (λ r. is_drawn old.projects r.id) old.routers
  pub floatings : Pass (λ r. is_drawn old.projects r.id) old.floatings
  pub policies : Pass (λ r. is_drawn old.projects r.id) old.policies

pub record AreNumbered (old : OldLists) : Type 0 where
  pub projects : ProjectsDiffer old.projects
  pub ids : (i : Ident) → times_in old i ≤ 1
  pub drawn : AreDrawn old
