-- Floating addresses, which come and go with the ports that hold them.
use Rattle.std.specs.Prelude.{◌≡◌, ◌++◌, ◌∷◌, [], ℕ, Bool, List, None, not, true, false, filter, map, count_by}
use Rattle.api_types.specs.Ident.{Ident}
use Rattle.api_types.specs.Table.{ident_eq}
use Rattle.api_types.specs.RowLists.{RowLists}
use Rattle.api_types.specs.Lists.{is_empty, if_some}
use Rattle.api_types.specs.Sharing.{is_external_to}
use Rattle.api_types.specs.Consistent.Numbered.{is_drawn, times_in}
use Rattle.api_types.specs.Consistent.Named.{is_registered}
use Rattle.api_types.specs.Consistent.Services.{is_port_for}
use Rattle.api_types.specs.Consistent.Floating.{leads_to, stands_for}
use Rattle.api_types.specs.declared.port.PortRow.{PortRow}
use Rattle.api_types.specs.declared.floating.FloatingRow.{FloatingRow}
use Rattle.row_laws.specs.ServicePorts.{IsServicePort}
use Rattle.api_types.specs.RouterWays.{other_ports}
use Rattle.row_laws.specs.NewRows.{with_port}

-- the rows with a floating address and the port that holds it, and without both
abbrev pub with_own_port : RowLists → FloatingRow → PortRow → RowLists
with_own_port rows f p =
    record rows { ports = rows.ports ++ p ∷ []; floatings = rows.floatings ++ f ∷ [] }

abbrev pub other_floatings : Ident → List FloatingRow → List FloatingRow
other_floatings i floatings = filter (λ f. not (ident_eq i f.id)) floatings

abbrev pub without_floating : RowLists → FloatingRow → RowLists
without_floating rows f = record rows {
  ports = other_ports f.own_port rows.ports;
  floatings = other_floatings f.id rows.floatings;
}

-- a floating address on a network that is external to its project, which leads in order or
-- nowhere, and alone, with the port of no project that holds it
pub record IsNewFloating (rows : RowLists) (f : FloatingRow) (p : PortRow) : Type 0 where
  pub fresh : times_in (with_port rows p) f.id ≡ 0
  pub drawn : is_drawn rows.projects f.id ≡ true
  pub project : is_registered rows.projects f.project ≡ true
  pub external : is_external_to rows.policies f.network f.project ≡ true
  pub leads : if_some (leads_to rows.ports rows.routers f) f.target ≡ true
  pub once : (network port : Ident) (x : ℕ) → stands_for network port x f ≡ true
      → count_by (stands_for network port x) rows.floatings ≡ 0
  pub service : IsServicePort rows p
  pub own : f.own_port ≡ p.id
  pub serves : is_port_for f p ≡ true
  pub nobody : is_empty p.project ≡ true

-- a floating address, disassociated or as it was, and the rows in which those are that pass a test
abbrev pub freed_if : Bool → FloatingRow → FloatingRow
freed_if true f = record f { target = None }
freed_if false f = f

abbrev pub with_floatings_freed : (FloatingRow → Bool) → RowLists → RowLists
with_floatings_freed test rows =
    record rows { floatings = map (λ f. freed_if (test f) f) rows.floatings }
