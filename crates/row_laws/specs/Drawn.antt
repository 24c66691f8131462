-- What holds of rows in which ids were drawn for a project.
use Rattle.std.specs.Prelude.{◌≡◌, ℕ, ◌<◌, true, None}
use Rattle.net_addr.specs.Words.{Text}
use Rattle.api_types.specs.Ident.{Ident}
use Rattle.api_types.specs.Table.{row_of}
use Rattle.api_types.specs.RowLists.{RowLists}
use Rattle.api_types.specs.Registration.{Drawing, drawn_id}
use Rattle.api_types.specs.Consistent.{IsConsistent}
use Rattle.api_types.specs.Consistent.Numbered.{times_in, is_drawn}
use Rattle.api_types.specs.Consistent.Named.{is_registered}

-- the rows are consistent, the ids are new and drawn, the project is registered, and rows of other
-- kinds than projects, groups and rules are as before
pub record IsDrawing (rows : RowLists) (name : Text) (many : ℕ) (d : Drawing) : Type 0 where
  pub consistent : IsConsistent d.rows
  pub fresh : (k : ℕ) → k < many → times_in d.rows (drawn_id d k) ≡ 0
  pub drawn : (k : ℕ) → k < many → is_drawn d.rows.projects (drawn_id d k) ≡ true
  pub project : is_registered d.rows.projects name ≡ true
  pub networks : d.rows.networks ≡ rows.networks
  pub subnets : d.rows.subnets ≡ rows.subnets
  pub ports : d.rows.ports ≡ rows.ports
  pub routers : d.rows.routers ≡ rows.routers
  pub floatings : d.rows.floatings ≡ rows.floatings
  pub policies : d.rows.policies ≡ rows.policies

-- an id that no row has is found in no list
pub record IsAbsent (rows : RowLists) (i : Ident) : Type 0 where
  pub networks : row_of (λ r. r.id) i rows.networks ≡ None
  pub subnets : row_of (λ r. r.id) i rows.subnets ≡ None
  pub ports : row_of (λ r. r.id) i rows.ports ≡ None
  pub groups : row_of (λ r. r.id) i rows.groups ≡ None
  pub rules : row_of (λ r. r.id) i rows.rules ≡ None
  pub routers : row_of (λ r. r.id) i rows.routers ≡ None
  pub floatings : row_of (λ r. r.id) i rows.floatings ≡ None
  pub policies : row_of (λ r. r.id) i rows.policies ≡ None

-- none of the ids is found
abbrev pub AreNew : ℕ → Drawing → Type 0
AreNew many d = (k : ℕ) → k < many → IsAbsent d.rows (drawn_id d k)
