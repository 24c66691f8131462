-- What a tenant's footing tells of the ports of its routers, also where it doesn't see them.
use Rattle.std.proofs.Common.{◌≡◌, ℕ, List, [], ◌∷◌, Bool, true, Option, Some, None, slice_get, refl, ap, sym, ◌∙◌, arith, map}
use Rattle.std.specs.Prelude.{◌&&◌, codes, filter, option_map}
use Rattle.std.specs.List.{list_any}
use Rattle.std.specs.Str.{bytes_eq}
use Rattle.api_types.specs.RouterWays.{interfaces_of, router_ports}
use Rattle.api_policy.specs.Routers.{fixed_of, gateway_object, router_members}
use Rattle.api_policy.specs.Trees.{fixed_object, id_word, list_of, null_or, route_object}
use Rattle.apart_laws.specs.Footing.{blank_port, blank_router, footing, is_of_router}
use Rattle.call_parts.specs.State.{State}
use Rattle.api_types.specs.Consistent.{IsConsistent}
use Rattle.api_types.specs.Consistent.Services.{is_gateway_of, is_named_gateway}
use Rattle.api_types.specs.Lists.{if_some}
use Rattle.api_types.specs.Owners.{device_is, is_gateway, is_interface, is_port_of}
use Rattle.api_types.specs.Printed.{NamedTree, Tree, branches_of, object, truth, word}
use Rattle.api_types.specs.RowLists.{RowLists}
use Rattle.api_types.specs.Table.{ident_eq, row_of}
use Rattle.api_types.specs.declared.call.Caller.{Caller}
use Rattle.api_types.specs.declared.port.Fixed.{Fixed}
use Rattle.api_types.specs.declared.port.PortRow.{PortRow}
use Rattle.api_types.specs.declared.router.Gateway.{Gateway}
use Rattle.api_types.specs.declared.router.RouterRow.{RouterRow}
use Rattle.net_settings.specs.Settings.{SettingsParts}
use Rattle.api_types.proofs.ListLemmas.{and_both, any-at, at-any, both_and, none_some, one_row, some_equal}
use Rattle.apart_laws.proofs.FootingLemmas.{port_id}
use Rattle.apart_laws.proofs.ListLemmas.{filter-map, find-filter, find-map, or_right}
use Rattle.apart_laws.proofs.ApartLemmas.{filter-kept}

-- the ports of the project's routers
abbrev pub is_served_for : RowLists → List ℕ → PortRow → Bool
is_served_for rows project p = is_of_router rows.routers project p

abbrev pub served_for : RowLists → List ℕ → List PortRow
served_for rows project = filter (is_served_for rows project) rows.ports

module _ (rows : RowLists) (caller : Caller) (c : IsConsistent rows) (k : ℕ) (r : RouterRow) (at : slice_get rows.routers k ≡ Some r) (own : bytes_eq r.project caller.project ≡ true) where
  pub port_served : (p : PortRow) → is_port_of r p ≡ true → is_served_for rows caller.project p ≡ true
  port_served p of = at-any (λ (q : RouterRow). bytes_eq q.project caller.project && is_port_of q p) rows.routers k r at (both_and _ _ own of)

  pub legs_served : router_ports rows.ports r ≡ router_ports (served_for rows caller.project) r
  legs_served = sym (filter-kept (is_served_for rows caller.project) (is_port_of r) rows.ports (λ l p at_p of. port_served p of))

  pub interfaces_served : interfaces_of rows.ports r ≡ interfaces_of (served_for rows caller.project) r
  interfaces_served = sym (filter-kept (is_served_for rows caller.project) (λ (p : PortRow). is_interface p.owner && is_port_of r p) rows.ports
      (λ l p at_p of. port_served p (and_both (is_interface p.owner) (is_port_of r p) of).1))

  -- the port that the router's gateway names is a gateway port of the router
  pub gateway_is : (g : Gateway) → r.gateway ≡ Some g → (l : ℕ) (p : PortRow) → slice_get rows.ports l ≡ Some p → ident_eq g.port p.id ≡ true
      → (is_gateway p.owner ≡ true) × (is_port_of r p ≡ true) × (ident_eq g.network p.network ≡ true)
  gateway_is g has l p at_p is =
      let named = any-at (is_named_gateway r g) rows.ports (sym (ap (if_some (λ h. list_any (is_named_gateway r h) rows.ports)) has) ∙ c.services.of_routers.named k r at) in
      let both = and_both (is_gateway_of r.id named.1) (ident_eq g.network named.1.network && ident_eq g.port named.1.id) named.3 in
      let ids = and_both (ident_eq g.network named.1.network) (ident_eq g.port named.1.id) both.1 in
      let one = one_row (λ (q : PortRow). ident_eq g.port q.id) rows.ports (omega (arith, c.numbered.ids g.port)) named.0 l named.1 p named.2 at_p ids.1 is in
      let of = and_both (is_gateway p.owner) (device_is p.device r.id) (ap (is_gateway_of r.id) (sym one) ∙ both.0) in
      (of.0, both_and _ _ (or_right (is_interface p.owner) (is_gateway p.owner) of.0) of.1, ap (λ (q : PortRow). ident_eq g.network q.network) (sym one) ∙ ids.0)

  pub gateway_served : (g : Gateway) → r.gateway ≡ Some g → row_of port_id g.port rows.ports ≡ row_of port_id g.port (served_for rows caller.project)
  gateway_served g has = sym (find-filter (is_served_for rows caller.project) (λ (p : PortRow). ident_eq g.port p.id) rows.ports
      (λ l p at_p is. port_served p (gateway_is g has l p at_p is).1))

-- what is printed of a router follows from the row and its gateway's port

abbrev pub fixed_printed : Gateway → List Fixed → Tree
fixed_printed g fixed = object (branches_of (
    (codes "enable_snat", truth g.snat)
    ∷ (codes "external_fixed_ips", list_of fixed_object fixed)
    ∷ (codes "network_id", id_word g.network)
    ∷ []))

abbrev pub gateway_printed : Gateway → Option PortRow → Tree
gateway_printed g o = fixed_printed g (fixed_of o)

abbrev pub router_printed : RouterRow → Tree → List NamedTree
router_printed r gateway =
    (codes "admin_state_up", truth r.up)
    ∷ (codes "description", word r.description)
    ∷ (codes "external_gateway_info", gateway)
    ∷ (codes "id", id_word r.id)
    ∷ (codes "name", word r.name)
    ∷ (codes "project_id", word r.project)
    ∷ (codes "routes", list_of route_object r.routes)
    ∷ (codes "status", word (codes "ACTIVE"))
    ∷ (codes "tenant_id", word r.project)
    ∷ []

null_each : {X : Type 0} (f g : X → Tree) (o : Option X) → ((x : X) → o ≡ Some x → f x ≡ g x) → null_or f o ≡ null_or g o
null_each f g None e = refl
null_each f g (Some x) e = e x refl

-- the same is printed of ports that differ in host and binding alone
pub fixed_alike : (o p : Option PortRow) → option_map blank_port o ≡ option_map blank_port p → fixed_of o ≡ fixed_of p
fixed_alike None None alike = refl
fixed_alike None (Some q) alike = none_some (blank_port q) _ alike
fixed_alike (Some p) None alike = none_some (blank_port p) _ (sym alike)
fixed_alike (Some p) (Some q) alike = ap (λ (x : PortRow). x.fixed) (some_equal (blank_port p) (blank_port q) alike)

-- the caller's router in both states, which may differ in its host
module _ (settings : SettingsParts) (caller : Caller) (s t : State) (c : IsConsistent s.rows) (d : IsConsistent t.rows) (same : footing settings s caller ≡ footing settings t caller)
    (k l : ℕ) (r o : RouterRow) (at_s : slice_get s.rows.routers k ≡ Some r) (at_t : slice_get t.rows.routers l ≡ Some o) (own : bytes_eq r.project caller.project ≡ true) (alike : blank_router r ≡ blank_router o) where
  abbrev served_at : State → List PortRow
  served_at state = served_for state.rows caller.project

  pub owned_too : bytes_eq o.project caller.project ≡ true
  owned_too = sym (ap (λ (x : RouterRow). bytes_eq x.project caller.project) alike) ∙ own

  pub gateway_alike : (g : Gateway) → r.gateway ≡ Some g → option_map blank_port (row_of port_id g.port s.rows.ports) ≡ option_map blank_port (row_of port_id g.port t.rows.ports)
  gateway_alike g has =
      ap (option_map blank_port) (gateway_served s.rows caller c k r at_s own g has)
      ∙ (sym (find-map (λ (p : PortRow). ident_eq g.port p.id) blank_port (served_at s))
      ∙ (ap (λ f. row_of port_id g.port f.served_ports) same
      ∙ (find-map (λ (p : PortRow). ident_eq g.port p.id) blank_port (served_at t)
      ∙ sym (ap (option_map blank_port) (gateway_served t.rows caller d l o at_t owned_too g (sym (ap (λ (x : RouterRow). x.gateway) alike) ∙ has))))))

  pub gateway_shown : (g : Gateway) → r.gateway ≡ Some g → gateway_object s.rows g ≡ gateway_object t.rows g
  gateway_shown g has = ap (fixed_printed g) (fixed_alike (row_of port_id g.port s.rows.ports) (row_of port_id g.port t.rows.ports) (gateway_alike g has))

  pub router_members_alike : router_members s.rows r ≡ router_members t.rows o
  router_members_alike = ap (router_printed r) (null_each (gateway_object s.rows) (gateway_object t.rows) r.gateway gateway_shown)
      ∙ (λ j. router_printed (alike j) (null_or (gateway_object t.rows) (alike j).gateway))

  -- its ports are the same, but for their hosts and bindings
  pub legs_alike : map blank_port (router_ports s.rows.ports r) ≡ map blank_port (router_ports t.rows.ports o)
  legs_alike =
      ap (map blank_port) (legs_served s.rows caller c k r at_s own)
      ∙ (sym (filter-map (is_port_of r) blank_port (served_at s))
      ∙ ((λ j. router_ports (same j).served_ports (alike j))
      ∙ (filter-map (is_port_of o) blank_port (served_at t)
      ∙ sym (ap (map blank_port) (legs_served t.rows caller d l o at_t owned_too)))))

  pub interfaces_alike : map blank_port (interfaces_of s.rows.ports r) ≡ map blank_port (interfaces_of t.rows.ports o)
  interfaces_alike =
      ap (map blank_port) (interfaces_served s.rows caller c k r at_s own)
      ∙ (sym (filter-map (λ (p : PortRow). is_interface p.owner && is_port_of r p) blank_port (served_at s))
      ∙ ((λ j. interfaces_of (same j).served_ports (alike j))
      ∙ (filter-map (λ (p : PortRow). is_interface p.owner && is_port_of o p) blank_port (served_at t)
      ∙ sym (ap (map blank_port) (interfaces_served t.rows caller d l o at_t owned_too)))))
