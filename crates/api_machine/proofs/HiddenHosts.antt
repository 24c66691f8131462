-- What a footing leaves out of ports and routers: on which hosts they stand, and of bindings all but which ports are bound. Each port
-- and each router may stand elsewhere.
use Rattle.std.proofs.Common.{◌≡◌, ℕ, List, Bool, Option, refl, ap, ◌∙◌, map}
use Rattle.std.specs.Prelude.{◌&&◌, ◌||◌, filter, find, option_map}
use Rattle.std.specs.List.{list_any}
use Rattle.std.specs.Option.{option_or}
use Rattle.std.specs.Str.{bytes_eq}
use Rattle.net_addr.specs.Addresses.{addr_eq}
use Rattle.api_types.specs.Consistent.Carried.{is_bound}
use Rattle.api_types.specs.Consistent.HeldOnce.{has_mac}
use Rattle.api_types.specs.Ident.{Ident}
use Rattle.api_types.specs.Lists.{stands}
use Rattle.api_types.specs.Owners.{is_port_of}
use Rattle.api_types.specs.RowLists.{RowLists}
use Rattle.api_types.specs.Table.{ident_eq}
use Rattle.api_types.specs.declared.call.Caller.{Caller}
use Rattle.api_types.specs.declared.floating.FloatingRow.{FloatingRow}
use Rattle.api_types.specs.declared.network.NetworkRow.{NetworkRow}
use Rattle.api_types.specs.declared.port.Fixed.{Fixed}
use Rattle.api_types.specs.declared.port.PortRow.{PortRow}
use Rattle.api_types.specs.declared.port.Vif.{Vif}
use Rattle.api_types.specs.declared.router.RouterRow.{RouterRow}
use Rattle.net_settings.specs.Settings.{SettingsParts}
use Rattle.api_policy.specs.Served.{held_port}
use Rattle.api_policy.specs.Visibility.{seen_networks, sees_port}
use Rattle.apart_laws.specs.Footing.{blank_port, blank_router, footing, guard, held_of, is_close, is_held_by, is_of_router, near_of}
use Rattle.call_parts.specs.State.{State}
use Rattle.apart_laws.proofs.ListLemmas.{any-map, filter-map, find-map, map-each, map-twice}
use Rattle.apart_laws.proofs.OwnAlike.{map-then}

module _ (rows : RowLists) (host : PortRow → List ℕ) (vif : PortRow → Vif) (stand : RouterRow → Option (List ℕ)) where
  abbrev moved_port : PortRow → PortRow
  moved_port p = record p { host = host p; vif = vif p }

  abbrev moved_router : RouterRow → RouterRow
  moved_router r = record r { host = stand r }

  abbrev pub moved : RowLists
  moved = record rows { ports = map moved_port rows.ports; routers = map moved_router rows.routers }

  module _ (settings : SettingsParts) (version : ℕ) (caller : Caller) (same : (p : PortRow) → is_bound (vif p) ≡ is_bound p.vif) where
    routed : (p : PortRow) → is_of_router moved.routers caller.project (moved_port p) ≡ is_of_router rows.routers caller.project p
    routed p = any-map (λ (r : RouterRow). bytes_eq r.project caller.project && is_port_of r p) moved_router rows.routers

    -- the ports that a test keeps
    kept : (keep other : PortRow → Bool) → ((p : PortRow) → keep (moved_port p) ≡ other p) → map blank_port (filter keep moved.ports) ≡ map blank_port (filter other rows.ports)
    kept keep other tests = ap (map blank_port) (filter-map keep moved_port rows.ports)
        ∙ (map-twice moved_port blank_port (filter (λ p. keep (moved_port p)) rows.ports) ∙ (λ j. map blank_port (filter (λ p. tests p j) rows.ports)))

    bound : (i : Ident) → list_any (λ (p : PortRow). ident_eq i p.id && is_bound p.vif) (filter (sees_port moved caller) moved.ports)
        ≡ list_any (λ (p : PortRow). ident_eq i p.id && is_bound p.vif) (filter (sees_port rows caller) rows.ports)
    bound i = ap (list_any (λ (p : PortRow). ident_eq i p.id && is_bound p.vif)) (filter-map (sees_port moved caller) moved_port rows.ports)
        ∙ (any-map (λ (p : PortRow). ident_eq i p.id && is_bound p.vif) moved_port (filter (sees_port rows caller) rows.ports)
        ∙ (λ j. list_any (λ (p : PortRow). ident_eq i p.id && same p j) (filter (sees_port rows caller) rows.ports)))

    routers : map blank_router (filter (λ (r : RouterRow). bytes_eq r.project caller.project) moved.routers) ≡ map blank_router (filter (λ (r : RouterRow). bytes_eq r.project caller.project) rows.routers)
    routers = ap (map blank_router) (filter-map (λ (r : RouterRow). bytes_eq r.project caller.project) moved_router rows.routers)
        ∙ map-twice moved_router blank_router (filter (λ (r : RouterRow). bytes_eq r.project caller.project) rows.routers)

    close : (i : Ident) → list_any (λ (p : PortRow). ident_eq i p.network && is_close moved caller.project p) moved.ports ≡ list_any (λ (p : PortRow). ident_eq i p.network && is_close rows caller.project p) rows.ports
    close i = any-map (λ (p : PortRow). ident_eq i p.network && is_close moved caller.project p) moved_port rows.ports
        ∙ (λ j. list_any (λ (p : PortRow). ident_eq i p.network && (bytes_eq p.project caller.project || routed p j)) rows.ports)

    router_of : (p : PortRow) → option_map (λ (r : RouterRow). r.project) (find (λ (r : RouterRow). is_port_of r p) moved.routers) ≡ option_map (λ (r : RouterRow). r.project) (find (λ (r : RouterRow). is_port_of r p) rows.routers)
    router_of p = ap (option_map (λ (r : RouterRow). r.project)) (find-map (λ (r : RouterRow). is_port_of r p) moved_router rows.routers)
        ∙ map-then moved_router (λ (r : RouterRow). r.project) (find (λ (r : RouterRow). is_port_of r p) rows.routers)

    held : (i : Ident) → map (held_port moved) (filter (λ (p : PortRow). ident_eq i p.network) moved.ports) ≡ map (held_port rows) (filter (λ (p : PortRow). ident_eq i p.network) rows.ports)
    held i = ap (map (held_port moved)) (filter-map (λ (p : PortRow). ident_eq i p.network) moved_port rows.ports)
        ∙ (map-twice moved_port (held_port moved) (filter (λ (p : PortRow). ident_eq i p.network) rows.ports)
        ∙ map-each (λ (p : PortRow). held_port moved (moved_port p)) (held_port rows) (filter (λ (p : PortRow). ident_eq i p.network) rows.ports)
        (λ k p at. λ j. record (held_port rows p) {
          served = option_or (router_of p j) (option_map (λ (f : FloatingRow). f.project) (find (λ (f : FloatingRow). ident_eq f.own_port p.id) rows.floatings));
        }))

    pub hidden_hosts : footing settings (record { rows = moved; version = version }) caller ≡ footing settings (record { rows = rows; version = version }) caller
    hidden_hosts = let state : State = record { rows = rows; version = version } in λ j. record (footing settings state caller) {
      ports = kept (sees_port moved caller) (sees_port rows caller) (λ p. refl) j;
      bound = λ i. bound i j;
      routers = routers j;
      served_ports = kept (is_of_router moved.routers caller.project) (is_of_router rows.routers caller.project) routed j;
      near = λ i. guard (stands (λ (n : NetworkRow). n.id) i (seen_networks rows caller) || close i j) (record (near_of rows caller.project i) {
        addresses = λ x. any-map (λ (p : PortRow). ident_eq i p.network && list_any (λ (f : Fixed). addr_eq f.address x) p.fixed) moved_port rows.ports j;
        macs = λ m. any-map (has_mac i m) moved_port rows.ports j;
      });
      held = λ i. guard (is_held_by rows caller.project i) (record (held_of rows i) { ports = held i j });
    }
