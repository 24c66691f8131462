-- A tenant is told the same of interfaces that it adds and removes, wherever its footing is the same.
use Rattle.std.proofs.Common.{◌≡◌, ℕ, ◌+◌, List, [], ◌∷◌, Bool, true, false, Option, Some, None, slice_get, refl, ap, sym, ◌∙◌, not}
use Rattle.std.specs.Prelude.{◌&&◌, ◌||◌, codes, find, is_some, option_map, if◌then◌else◌}
use Rattle.std.specs.List.{list_any}
use Rattle.std.specs.Str.{bytes_eq}
use Rattle.net_addr.specs.Prefixes.{contains, overlaps}
use Rattle.net_addr.specs.declared.address.Addr.TheVariants.{V4}
use Rattle.net_addr.specs.declared.address.Addr.{Addr}
use Rattle.call_parts.specs.Edits.{Put, accepted}
use Rattle.api_types.specs.HeldAddresses.{fixed_at, is_address_held}
use Rattle.plan_routers.specs.InterfaceCalls.{added_by_port, added_by_subnet, first_subnet, interface_added, interface_by, interface_gone, interface_made, interface_port, interface_removed, interface_shown, no_interface, port_refusal, port_removed, removal_refusal, removed_by, subnet_refusal, taken_over}
use Rattle.api_ipam.specs.MacChoice.{free_mac}
use Rattle.api_policy.specs.Permits.{network_owner, owner_only}
use Rattle.api_types.specs.RouterWays.{interfaces_of, reaches}
use Rattle.api_router.specs.RouterRules.{bad_interface_subnet, overlaps_leg}
use Rattle.api_policy.specs.Seen.{port_seen, router_seen, subnet_seen}
use Rattle.api_types.specs.Owners.{is_service, holds_in, is_interface, is_port_of}
use Rattle.api_policy.specs.Uses.{floating_in_use, leads_through, named_by_device, told_user}
use Rattle.api_policy.specs.Visibility.{is_own, owns_network}
use Rattle.api_policy.specs.Trees.{id_word, list_of}
use Rattle.apart_laws.specs.Footing.{blank_port, blank_router, footing}
use Rattle.api_types.specs.Refusing.{first_refusal, needing, not_found, answer_alone, when}
use Rattle.call_parts.specs.State.{State, drawing_at}
use Rattle.api_types.specs.Consistent.{IsConsistent}
use Rattle.api_types.specs.Ident.{Ident, ident_text}
use Rattle.api_types.specs.Lists.{Each, is_empty, is_one, is_some_so}
use Rattle.api_types.specs.Outcome.{Outcome, Told}
use Rattle.api_types.specs.Printed.{InterfaceRow, ShownRow, word}
use Rattle.api_types.specs.Registration.{Drawing, drawn_id, ident}
use Rattle.api_types.specs.Table.{ident_eq, row_of}
use Rattle.api_types.specs.declared.call.Caller.{Caller}
use Rattle.api_types.specs.declared.call.IdText.{IdText}
use Rattle.api_types.specs.declared.call.InterfaceBy.TheVariants.{Subnet as BySubnet, Port as ByPort}
use Rattle.api_types.specs.declared.call.InterfaceBy.{InterfaceBy}
use Rattle.api_types.specs.declared.floating.FloatingRow.{FloatingRow}
use Rattle.api_types.specs.declared.floating.Target.{Target}
use Rattle.api_types.specs.declared.kind.Kind.TheVariants.{Floating as FloatingKind, Port as PortKind, Router as RouterKind, Subnet as SubnetKind}
use Rattle.api_types.specs.declared.kind.Row.TheVariants.{Port}
use Rattle.api_types.specs.declared.network.NetworkRow.{NetworkRow}
use Rattle.api_types.specs.declared.port.PortRow.{PortRow}
use Rattle.api_types.specs.declared.refusal.Refusal.TheVariants.{CountersSpent, InUse, Invalid, Taken}
use Rattle.api_types.specs.declared.refusal.Refusal.{Refusal}
use Rattle.api_types.specs.declared.refusal.UseRule.TheVariants.{PortInUse, RouterInterfaceInUseByFloatingIp, RouterInterfaceInUseByRoute}
use Rattle.api_types.specs.declared.refusal.Value.TheVariants.{Address as AddressValue}
use Rattle.api_types.specs.declared.router.RouterRow.{RouterRow}
use Rattle.api_types.specs.declared.subnet.Hop.{Hop}
use Rattle.api_types.specs.declared.subnet.SubnetRow.{SubnetRow}
use Rattle.net_settings.specs.Settings.{SettingsParts}
use Rattle.api_types.proofs.ListLemmas.{and_both, at_filter}
use Rattle.api_types.proofs.NameLemmas.{bytes_same, ident_same}
use Rattle.apart_laws.proofs.FootingLemmas.{needing_alike, needing_by, network_id, port_id}
use Rattle.apart_laws.proofs.ListLemmas.{find_here, find_pairs, or_right}
use Rattle.apart_laws.proofs.ApartLemmas.{first_same, needing_same, none_at, unless_same}
use Rattle.apart_laws.proofs.DeviceAlike.{device_alike}
use Rattle.apart_laws.proofs.FoundTold.{found_there}
use Rattle.apart_laws.proofs.NearAlike.{free_mac_same, network_owner_alike}
use Rattle.apart_laws.proofs.OwnAlike.{drawn_alike, network_passes}
use Rattle.apart_laws.proofs.PortAlike.{port_found, port_here}
use Rattle.apart_laws.proofs.ReachAlike.{all_hold, floating_user_alike, holds_alike, holds_so, leg_near, lost_hop_alike, router_project, router_told, target_there}
use Rattle.plan_routers.proofs.RouterCallsApart.{router_found, router_here}
use Rattle.apart_laws.proofs.ServedAlike.{interfaces_alike, owned_too}
use Rattle.apart_laws.proofs.SubnetAlike.{owned_addresses, owned_macs, subnet_found, subnet_here}

-- what is answered of a new interface, by its port's network, id and project
abbrev interface_printed : RouterRow → Ident → Ident → Ident → ShownRow
interface_printed r network port subnet = record {
  kind = RouterKind;
  members = (codes "id", id_word r.id)
      ∷ (codes "network_id", id_word network)
      ∷ (codes "port_id", id_word port)
      ∷ (codes "project_id", word r.project)
      ∷ (codes "subnet_id", id_word subnet)
      ∷ (codes "subnet_ids", list_of id_word (subnet ∷ []))
      ∷ (codes "tenant_id", word r.project)
      ∷ [];
}

module _ (settings : SettingsParts) (caller : Caller) (tenant : caller.admin ≡ false) (named : not (is_empty caller.project) ≡ true) (s t : State) (c : IsConsistent s.rows) (d : IsConsistent t.rows) (same : footing settings s caller ≡ footing settings t caller) where
  module _ (k l : ℕ) (r o : RouterRow) (at_s : slice_get s.rows.routers k ≡ Some r) (at_t : slice_get t.rows.routers l ≡ Some o) (own : bytes_eq r.project caller.project ≡ true) (one : blank_router r ≡ blank_router o) where
    leg_alike : (x : SubnetRow) → overlaps_leg s.rows r x ≡ overlaps_leg t.rows o x
    leg_alike x = all_hold settings caller tenant s t c d same k l r o at_s at_t own one (λ (y : SubnetRow). overlaps x.prefix y.prefix)

    -- an interface by subnet

    subnet_same : (sub : SubnetRow) (x : Addr) → subnet_refusal s.rows caller r sub x ≡ subnet_refusal t.rows caller o sub x
    subnet_same sub x = first_same (bad_interface_subnet s.rows r sub) (bad_interface_subnet t.rows o sub) (owner_only caller r.project ∷ owner s ∷ held s ∷ []) (owner_only caller o.project ∷ owner t ∷ held t ∷ [])
        (ap (λ b. when b (Invalid (codes "subnet_id"))) (leg_alike sub))
        (λ _ _. first_same (owner_only caller r.project) (owner_only caller o.project) (owner s ∷ held s ∷ []) (owner t ∷ held t ∷ []) (ap (λ (z : RouterRow). owner_only caller z.project) one)
        (λ _ _. first_same (owner s) (owner t) (held s ∷ []) (held t ∷ []) (network_owner_alike settings caller tenant s t same sub.network true)
        (λ passes _. ap (λ (held : Addr → Bool). first_refusal (when (held x) (Taken (AddressValue x) sub.network) ∷ [])) (owned_addresses settings caller tenant s t c d same sub.network (network_passes caller tenant s.rows sub.network passes)))))
      where
        owner : State → Option Refusal
        owner state = network_owner state.rows caller true sub.network

        held : State → Option Refusal
        held state = when (is_address_held state.rows.ports sub.network x) (Taken (AddressValue x) sub.network)

    abbrev made_at : RouterRow → SubnetRow → NetworkRow → Addr → ℕ → Drawing → Outcome
    made_at w sub n x mac z = interface_made z.rows w (interface_port settings z.rows caller w n (drawn_id z 0) mac (fixed_at sub.id x)) sub.id

    abbrev chosen_at : State → RouterRow → SubnetRow → NetworkRow → Addr → Outcome
    chosen_at state w sub n x = needing CountersSpent (free_mac state.rows.ports n.id) (λ mac. needing CountersSpent (drawing_at state w.project 1) (made_at w sub n x mac))

    chosen_alike_at : (sub : SubnetRow) (x : Addr) (n m : NetworkRow) → n.id ≡ m.id → owns_network s.rows caller.project n.id ≡ true → answer_alone (chosen_at s r sub n x) ≡ answer_alone (chosen_at t o sub m x)
    chosen_alike_at sub x n m ids owns = needing_same CountersSpent (free_mac s.rows.ports n.id) (free_mac t.rows.ports m.id)
        (λ mac. needing CountersSpent (drawing_at s r.project 1) (made_at r sub n x mac)) (λ mac. needing CountersSpent (drawing_at t o.project 1) (made_at o sub m x mac))
        (free_mac_same s.rows.ports t.rows.ports n.id (owned_macs settings caller tenant s t c d same n.id owns) ∙ ap (free_mac t.rows.ports) ids)
        (λ mac _ _. drawn_alike settings caller tenant s t same r.project (bytes_same r.project caller.project own) 1 (made_at r sub n x mac) (made_at o sub m x mac)
        (λ y z at_y at_z counts. λ j. Told (InterfaceRow (interface_printed (one j) (ids j) (ident (counts j).0 ((counts j).1 + 0)) sub.id)))
        ∙ (λ j. answer_alone (needing CountersSpent (drawing_at t (one j).project 1) (made_at o sub m x mac))))

    by_subnet_alike : (i : Ident) → answer_alone (interface_by settings s caller r (BySubnet i)) ≡ answer_alone (interface_by settings t caller o (BySubnet i))
    by_subnet_alike i = needing_same refusal (subnet_seen s.rows caller (Some i)) (subnet_seen t.rows caller (Some i)) (on s r) (on t o) (subnet_found settings caller tenant s t c d same (Some i))
        (λ sub found_s found_t. let here = subnet_here settings caller tenant s t c d same s (Some i) sub found_s in let there = subnet_here settings caller tenant s t c d same t (Some i) sub found_t in
        let n0 = found_there (λ (n : NetworkRow). ident_eq sub.network n.id) s.rows.networks (c.named.networks.of_subnets here.0 sub here.1) in
        let m0 = found_there (λ (n : NetworkRow). ident_eq sub.network n.id) t.rows.networks (d.named.networks.of_subnets there.0 sub there.1) in
        needing_same (Invalid (codes "subnet_id")) sub.gateway sub.gateway (at s r sub) (at t o sub) refl
        (λ x _ _. needing_alike refusal (row_of network_id sub.network s.rows.networks) (row_of network_id sub.network t.rows.networks) (λ n. added_by_subnet settings s caller r sub n x) (λ n. added_by_subnet settings t caller o sub n x)
        (ap is_some n0.1 ∙ sym (ap is_some m0.1))
        (λ n m found_n found_m.
        let is_n = ident_same sub.network n.id (find_here (λ (z : NetworkRow). ident_eq sub.network z.id) s.rows.networks n found_n).2 in
        let is_m = ident_same sub.network m.id (find_here (λ (z : NetworkRow). ident_eq sub.network z.id) t.rows.networks m found_m).2 in
        unless_same (subnet_refusal s.rows caller r sub x) (subnet_refusal t.rows caller o sub x) (chosen_at s r sub n x) (chosen_at t o sub m x) (subnet_same sub x)
        (λ passes _. chosen_alike_at sub x n m (sym is_n ∙ is_m)
        (ap (owns_network s.rows caller.project) (sym is_n) ∙ network_passes caller tenant s.rows sub.network (none_at (refusals s sub x) passes 2 (network_owner s.rows caller true sub.network) refl))))))
      where
        refusal : Refusal
        refusal = not_found SubnetKind (ident_text i)

        at : State → RouterRow → SubnetRow → Addr → Outcome
        at state w sub x = needing refusal (row_of network_id sub.network state.rows.networks) (λ n. added_by_subnet settings state caller w sub n x)

        on : State → RouterRow → SubnetRow → Outcome
        on state w sub = needing (Invalid (codes "subnet_id")) sub.gateway (at state w sub)

        refusals : State → SubnetRow → Addr → List (Option Refusal)
        refusals state sub x = bad_interface_subnet state.rows r sub ∷ owner_only caller r.project ∷ network_owner state.rows caller true sub.network
            ∷ when (is_address_held state.rows.ports sub.network x) (Taken (AddressValue x) sub.network) ∷ []

    -- an interface by port

    by_port_alike : (i : Ident) → answer_alone (interface_by settings s caller r (ByPort i)) ≡ answer_alone (interface_by settings t caller o (ByPort i))
    by_port_alike i = needing_by refusal (port_seen s.rows caller (Some i)) (port_seen t.rows caller (Some i)) (on s r) (on t o) blank_port (port_found settings caller tenant s t c d same (Some i))
        (λ p q found_s found_t alike. let here = port_here settings caller tenant s t c d same s (Some i) p found_s in let there = port_here settings caller tenant s t c d same t (Some i) q found_t in
        let n0 = found_there (λ (n : NetworkRow). ident_eq p.network n.id) s.rows.networks (c.named.networks.of_ports here.0 p here.1) in
        let m0 = found_there (λ (n : NetworkRow). ident_eq q.network n.id) t.rows.networks (d.named.networks.of_ports there.0 q there.1) in
        let leg = holds_alike settings caller tenant s t c d same here.0 there.0 p q here.1 there.1 alike here.3 (overlaps_leg s.rows r) ∙ (λ j. holds_so (λ x. leg_alike x j) t.rows.subnets q) in
        let user = device_alike settings caller tenant s t c d same p.device ∙ ap (λ (x : PortRow). told_user t.rows caller (named_by_device t.rows x.device)) alike in
        needing_alike refusal (row_of network_id p.network s.rows.networks) (row_of network_id q.network t.rows.networks) (λ n. added_by_port settings s caller r p n) (λ n. added_by_port settings t caller o q n)
        (ap is_some n0.1 ∙ sym (ap is_some m0.1))
        (λ n m found_n found_m. unless_same (port_refusal s caller r p) (port_refusal t caller o q) (taken s r n p) (taken t o m q)
        (λ j. first_refusal (
        when (not (is_one (alike j).fixed) || leg j) (Invalid (codes "port_id"))
        ∷ owner_only caller (one j).project
        ∷ owner_only caller (alike j).project
        ∷ when (is_service (alike j).owner || not (is_empty (alike j).device)) (InUse PortInUse RouterKind (one j).id (if is_service (alike j).owner then user j else None))
        ∷ when (same j).is_last CountersSpent
        ∷ []))
        (λ _ _. λ j. Told (InterfaceRow (interface_shown (one j) (alike j) (first_subnet (alike j).fixed))))))
      where
        refusal : Refusal
        refusal = not_found PortKind (ident_text i)

        on : State → RouterRow → PortRow → Outcome
        on state w p = needing refusal (row_of network_id p.network state.rows.networks) (λ n. added_by_port settings state caller w p n)

        taken : State → RouterRow → NetworkRow → PortRow → Outcome
        taken state w n p = accepted state.rows (Put (Port (taken_over settings w n p)) ∷ []) (λ after. InterfaceRow (interface_shown w p (first_subnet p.fixed)))

    -- removing an interface

    floating_alike : (m n : ℕ) (p q : PortRow) → slice_get s.rows.ports m ≡ Some p → slice_get t.rows.ports n ≡ Some q → blank_port p ≡ blank_port q → is_port_of r p ≡ true → floating_in_use s.rows caller r p ≡ floating_in_use t.rows caller o q
    floating_alike m n p q at_m at_n alike of = floating_user_alike settings caller tenant s t c d same (λ user. InUse RouterInterfaceInUseByFloatingIp RouterKind r.id user)
        (leads_through s.rows.subnets r.id p) (leads_through t.rows.subnets o.id q) (leads s c k r at_s own p) (leads t d l o at_t owned_o q)
        (λ i f at. λ j. is_some_so (λ (x : Target). ident_eq (one j).id x.router && reach x j) f.target)
        ∙ (λ j. option_map (λ (f : FloatingRow). InUse RouterInterfaceInUseByFloatingIp RouterKind (one j).id (told_user t.rows caller (Some (FloatingKind, f.id)))) (find (leads_through t.rows.subnets o.id q) t.rows.floatings))
      where
        owned_o : bytes_eq o.project caller.project ≡ true
        owned_o = owned_too settings caller s t c d same k l r o at_s at_t own one

        reach : (x : Target) → reaches s.rows.subnets (V4 x.fixed) p ≡ reaches t.rows.subnets (V4 x.fixed) q
        reach x = holds_alike settings caller tenant s t c d same m n p q at_m at_n alike (leg_near s.rows caller k r at_s own m p at_m of) (λ (y : SubnetRow). contains y.prefix (V4 x.fixed))

        leads : (state : State) → IsConsistent state.rows → (i : ℕ) (w : RouterRow) → slice_get state.rows.routers i ≡ Some w → bytes_eq w.project caller.project ≡ true → (leg : PortRow)
            → Each (λ (f : FloatingRow). leads_through state.rows.subnets w.id leg f ≡ true → is_own caller f.project ≡ true) state.rows.floatings
        leads state e i w at mine leg h f at_f is = let there = target_there (λ (x : Target). ident_eq w.id x.router && reaches state.rows.subnets (V4 x.fixed) leg) f.target is in
            or_right caller.admin _ (ap (λ name. bytes_eq name caller.project) (sym (bytes_same w.project f.project (router_project state.rows e i w at h f at_f there.0 there.1
            (and_both (ident_eq w.id there.0.router) (reaches state.rows.subnets (V4 there.0.fixed) leg) there.2).0))) ∙ mine)

    removal_same : (m n : ℕ) (p q : PortRow) → slice_get s.rows.ports m ≡ Some p → slice_get t.rows.ports n ≡ Some q → blank_port p ≡ blank_port q → is_port_of r p ≡ true → (owner other : Option Refusal) → owner ≡ other
        → removal_refusal s caller r p owner ≡ removal_refusal t caller o q other
    removal_same m n p q at_m at_n alike of owner other owners =
        let user = router_told settings caller tenant s t c d same k l r o at_s at_t own one in
        let floating = floating_alike m n p q at_m at_n alike of in
        λ j. first_refusal (
        owner_only caller (one j).project
        ∷ owners j
        ∷ when (list_any (λ (hop : Hop). lost_hop_alike settings caller tenant s t c d same k l r o at_s at_t own one m n p q at_m at_n alike of hop j) (one j).routes) (InUse RouterInterfaceInUseByRoute RouterKind (one j).id (user j))
        ∷ floating j
        ∷ when (same j).is_last CountersSpent
        ∷ [])

    -- the port is found among the router's interfaces, by a test that looks at neither host nor binding
    removed_alike : (refusal : Refusal) (test : PortRow → Bool) → ((p : PortRow) → test (blank_port p) ≡ test p) → (owner other : Option Refusal) → owner ≡ other
        → answer_alone (needing refusal (find test (interfaces_of s.rows.ports r)) (port_removed s caller r owner)) ≡ answer_alone (needing refusal (find test (interfaces_of t.rows.ports o)) (port_removed t caller o other))
    removed_alike refusal test blind owner other owners = needing_by refusal (find test (interfaces_of s.rows.ports r)) (find test (interfaces_of t.rows.ports o)) (port_removed s caller r owner) (port_removed t caller o other) blank_port
        (find_pairs blank_port test test (interfaces_of s.rows.ports r) (interfaces_of t.rows.ports o) (interfaces_alike settings caller s t c d same k l r o at_s at_t own one) (λ i p q _ _ alike. sym (blind p) ∙ (ap test alike ∙ blind q)))
        (λ p q found_s found_t alike. let first = find_here test (interfaces_of s.rows.ports r) p found_s in let second = find_here test (interfaces_of t.rows.ports o) q found_t in
        let here = at_filter (λ (x : PortRow). is_interface x.owner && is_port_of r x) s.rows.ports first.0 p first.1 in
        let there = at_filter (λ (x : PortRow). is_interface x.owner && is_port_of o x) t.rows.ports second.0 q second.1 in
        unless_same (removal_refusal s caller r p owner) (removal_refusal t caller o q other) (gone s r p) (gone t o q)
        (removal_same here.0 there.0 p q here.1 there.1 alike (and_both (is_interface p.owner) (is_port_of r p) here.2).1 owner other owners)
        (λ _ _. λ j. Told (InterfaceRow (interface_shown (one j) (alike j) (first_subnet (alike j).fixed)))))
      where
        gone : State → RouterRow → PortRow → Outcome
        gone state w p = accepted state.rows (interface_gone state.rows.floatings p) (λ after. InterfaceRow (interface_shown w p (first_subnet p.fixed)))

    removed_by_alike : (by : InterfaceBy) → answer_alone (removed_by s caller r by) ≡ answer_alone (removed_by t caller o by)
    removed_by_alike (BySubnet i) = needing_same (not_found SubnetKind (ident_text i)) (subnet_seen s.rows caller (Some i)) (subnet_seen t.rows caller (Some i))
        (λ sub. needing (no_interface i) (find (holds_in i) (interfaces_of s.rows.ports r)) (port_removed s caller r (network_owner s.rows caller true sub.network)))
        (λ sub. needing (no_interface i) (find (holds_in i) (interfaces_of t.rows.ports o)) (port_removed t caller o (network_owner t.rows caller true sub.network)))
        (subnet_found settings caller tenant s t c d same (Some i))
        (λ sub _ _. removed_alike (no_interface i) (holds_in i) (λ p. refl) (network_owner s.rows caller true sub.network) (network_owner t.rows caller true sub.network) (network_owner_alike settings caller tenant s t same sub.network true))
    removed_by_alike (ByPort i) = needing_by (not_found PortKind (ident_text i)) (port_seen s.rows caller (Some i)) (port_seen t.rows caller (Some i))
        (λ p. needing (no_interface i) (row_of port_id i (interfaces_of s.rows.ports r)) (port_removed s caller r (owner_only caller p.project)))
        (λ p. needing (no_interface i) (row_of port_id i (interfaces_of t.rows.ports o)) (port_removed t caller o (owner_only caller p.project)))
        blank_port (port_found settings caller tenant s t c d same (Some i))
        (λ p q _ _ alike. removed_alike (no_interface i) (λ (x : PortRow). ident_eq i x.id) (λ x. refl) (owner_only caller p.project) (owner_only caller q.project) (ap (λ (x : PortRow). owner_only caller x.project) alike))

    added_by_alike : (by : InterfaceBy) → answer_alone (interface_by settings s caller r by) ≡ answer_alone (interface_by settings t caller o by)
    added_by_alike (BySubnet i) = by_subnet_alike i
    added_by_alike (ByPort i) = by_port_alike i

  pub interface_added_apart : (name : IdText) (by : InterfaceBy) → answer_alone (interface_added settings s caller name by) ≡ answer_alone (interface_added settings t caller name by)
  interface_added_apart name by = needing_by (not_found RouterKind name.text) (router_seen s.rows caller name.id) (router_seen t.rows caller name.id)
      (λ r. interface_by settings s caller r by) (λ r. interface_by settings t caller r by) blank_router (router_found settings caller tenant named s t c d same name.id)
      (λ r o found_s found_t one. let here = router_here settings caller tenant named s t c d same s name.id r found_s in let there = router_here settings caller tenant named s t c d same t name.id o found_t in
      added_by_alike here.0 there.0 r o here.1 there.1 here.2 one by)

  pub interface_removed_apart : (name : IdText) (by : InterfaceBy) → answer_alone (interface_removed s caller name by) ≡ answer_alone (interface_removed t caller name by)
  interface_removed_apart name by = needing_by (not_found RouterKind name.text) (router_seen s.rows caller name.id) (router_seen t.rows caller name.id)
      (λ r. removed_by s caller r by) (λ r. removed_by t caller r by) blank_router (router_found settings caller tenant named s t c d same name.id)
      (λ r o found_s found_t one. let here = router_here settings caller tenant named s t c d same s name.id r found_s in let there = router_here settings caller tenant named s t c d same t name.id o found_t in
      removed_by_alike here.0 there.0 r o here.1 there.1 here.2 one by)
