-- What other projects have, and that a tenant's calls leave it alone.
use Rattle.std.specs.Prelude.{◌≡◌, ◌&&◌, ◌||◌, Bool, List, filter, map, not, true, false}
use Rattle.std.specs.List.{list_any}
use Rattle.std.specs.Str.{bytes_eq}
use Rattle.net_addr.specs.Words.{Text}
use Rattle.api_types.specs.Consistent.{IsConsistent}
use Rattle.api_types.specs.Consistent.InForm.{is_network_of}
use Rattle.api_types.specs.Consistent.Named.{is_network, is_port}
use Rattle.api_types.specs.Lists.{Each, is_empty, is_some_so}
use Rattle.api_types.specs.Outcome.{Moved, Outcome}
use Rattle.api_types.specs.Printed.{Reply}
use Rattle.api_types.specs.RowLists.{RowLists}
use Rattle.api_types.specs.Table.{ident_eq}
use Rattle.api_types.specs.declared.call.Caller.{Caller}
use Rattle.api_types.specs.declared.floating.FloatingRow.{FloatingRow}
use Rattle.api_types.specs.declared.floating.Target.{Target}
use Rattle.api_types.specs.declared.port.PortRow.{PortRow}
use Rattle.api_types.specs.declared.router.Gateway.{Gateway}
use Rattle.call_parts.specs.State.{State}
use Rattle.row_laws.specs.OwnPorts.{freed_if}

-- the rows of other projects
abbrev pub of_others : {R : Type 0} → (R → Text) → Text → List R → List R
of_others owner_of project rows = filter (λ r. not (bytes_eq (owner_of r) project)) rows

-- the port is the gateway of a router of the project, or holds a floating address of it
abbrev pub serves : Text → RowLists → PortRow → Bool
serves project rows p =
    list_any
    (λ r.
    bytes_eq r.project project && is_some_so (λ (g : Gateway). ident_eq g.port p.id) r.gateway)
    rows.routers
    || list_any (λ f. bytes_eq f.project project && ident_eq f.own_port p.id) rows.floatings

-- the ports of other projects, and those of no project that don't serve this one
abbrev pub is_port_of_others : Text → RowLists → PortRow → Bool
is_port_of_others project rows p = not (bytes_eq p.project project || serves project rows p)

abbrev pub ports_of_others : Text → RowLists → List PortRow
ports_of_others project rows = filter (is_port_of_others project rows) rows.ports

-- the old rows that stay, in their order; which ones may go
pub record AreLeft {R : Type 0} (may_go : R → Bool) (old new : List R) : Type 0 where
  pub stays : R → Bool
  pub left : new ≡ filter stays old
  pub gone : Each (λ r. stays r || may_go r ≡ true) old

-- the old floating addresses, some of which lead nowhere any more; which ones may be so
pub record AreFreed (may_be : FloatingRow → Bool) (old new : List FloatingRow) : Type 0 where
  pub freed : FloatingRow → Bool
  pub left : new ≡ map (λ f. freed_if (freed f) f) old
  pub lost : Each (λ f. not (freed f) || may_be f ≡ true) old

-- what other projects have is the same after a call, in the same order; but a policy goes with its
-- network, a port may go from a network of the project, and a floating address whose port went
-- leads nowhere
pub record OthersStay (project : Text) (old new : RowLists) : Type 0 where
  pub projects : of_others (λ r. r.name) project new.projects
      ≡ of_others (λ r. r.name) project old.projects
  pub networks : of_others (λ r. r.project) project new.networks
      ≡ of_others (λ r. r.project) project old.networks
  pub subnets : of_others (λ r. r.project) project new.subnets
      ≡ of_others (λ r. r.project) project old.subnets
  pub groups : of_others (λ r. r.project) project new.groups
      ≡ of_others (λ r. r.project) project old.groups
  pub rules : of_others (λ r. r.project) project new.rules
      ≡ of_others (λ r. r.project) project old.rules
  pub routers : of_others (λ r. r.project) project new.routers
      ≡ of_others (λ r. r.project) project old.routers
  pub policies : AreLeft (λ l. not (is_network new.networks l.object))
      (of_others (λ l. l.project) project old.policies)
      (of_others (λ l. l.project) project new.policies)
  pub ports : AreLeft (λ p. is_network_of old.networks project p.network)
      (ports_of_others project old) (ports_of_others project new)
  pub floatings : AreFreed
      (λ f. is_some_so (λ (t : Target). not (is_port new.ports t.port)) f.target)
      (of_others (λ f. f.project) project old.floatings)
      (of_others (λ f. f.project) project new.floatings)

-- a tenant, whose project has a name, leaves what others own alone by each such call that is
-- accepted
abbrev pub SparesOthers : (State → Caller → Outcome) → Type 0
SparesOthers step =
    (state : State) (caller : Caller) (rows : RowLists) (reply : Reply)
    → IsConsistent state.rows → caller.admin ≡ false → not (is_empty caller.project) ≡ true
    → step state caller ≡ Moved rows reply → OthersStay caller.project state.rows rows
