-- A tenant is told the same of subnets that it makes, changes and takes out, wherever its footing is the same.
use Rattle.std.proofs.Common.{◌≡◌, ◌+◌, List, ◌∷◌, Bool, true, false, Option, Some, None, slice_get, refl, ap, sym, ◌∙◌, not, ℕ, []}
use Rattle.std.specs.Prelude.{◌&&◌, codes, find, is_some, option_and_then, option_map, if◌then◌else◌}
use Rattle.std.specs.List.{list_any}
use Rattle.net_addr.specs.Addresses.{addr_eq}
use Rattle.net_addr.specs.Prefixes.{overlaps}
use Rattle.net_addr.specs.declared.address.Addr.{Addr}
use Rattle.call_parts.specs.BodyNames.{no_id, text_of}
use Rattle.plan_subnets.specs.DhcpUpkeep.{dhcp_address, dhcp_port_on, makes_dhcp_port}
use Rattle.call_parts.specs.Edits.{accepted}
use Rattle.api_types.specs.HeldAddresses.{fixed_at}
use Rattle.api_ipam.specs.MacChoice.{mac_if}
use Rattle.api_policy.specs.Permits.{network_owner}
use Rattle.api_policy.specs.Quotas.{over_quota}
use Rattle.plan_subnets.specs.SubnetRules.{bad_cidr, bad_dhcp, bad_parts, bad_subnet, bad_versions}
use Rattle.api_policy.specs.Seen.{network_seen, subnet_seen}
use Rattle.plan_subnets.specs.SubnetCalls.{changed_subnet, creation_refusal, deletion_refusal, dhcp_asked, gateway_asked, new_subnet, pools_asked, prefix_asked, subnet_added, subnet_changed, subnet_created, subnet_deleted, subnet_edits, subnet_gone, subnet_made, subnet_shown, subnet_updated, update_refusal}
use Rattle.api_policy.specs.Uses.{gateway_user, holds_gateway, is_subnet_user, old_gateway_in_use, subnet_in_use, used_by_port}
use Rattle.api_policy.specs.Visibility.{owns_network, sees_port}
use Rattle.api_policy.specs.Shown.{shown_as}
use Rattle.api_policy.specs.Subnets.{subnet_members}
use Rattle.apart_laws.specs.Footing.{Near, blank, blank_port, footing}
use Rattle.api_types.specs.Given.{value_of}
use Rattle.api_types.specs.Refusing.{first_refusal, needing, not_found, answer_alone, unless, when}
use Rattle.call_parts.specs.State.{State, drawing_at, is_last}
use Rattle.api_types.specs.Consistent.{IsConsistent}
use Rattle.api_types.specs.Ident.{Ident}
use Rattle.api_types.specs.Lists.{Each, is_some_so}
use Rattle.api_types.specs.Outcome.{Outcome, Told}
use Rattle.api_types.specs.Owners.{holds_in, is_dhcp, is_interface}
use Rattle.api_types.specs.Printed.{NewRow, NoRow, OneRow}
use Rattle.api_types.specs.Registration.{drawn_id, ident}
use Rattle.api_types.specs.Table.{ident_eq, row_of}
use Rattle.api_types.specs.declared.call.Caller.{Caller}
use Rattle.api_types.specs.declared.call.IdText.{IdText}
use Rattle.api_types.specs.declared.form.SubnetForm.{SubnetForm}
use Rattle.api_types.specs.declared.kind.Kind.TheVariants.{Network as NetworkKind, Subnet as SubnetKind}
use Rattle.api_types.specs.declared.network.NetworkRow.{NetworkRow}
use Rattle.api_types.specs.declared.port.Fixed.{Fixed}
use Rattle.api_types.specs.declared.port.PortRow.{PortRow}
use Rattle.api_types.specs.declared.refusal.Refusal.TheVariants.{CountersSpent, Invalid, PoolsSpent}
use Rattle.api_types.specs.declared.refusal.Refusal.{Refusal}
use Rattle.api_types.specs.declared.refusal.UseRule.TheVariants.{GatewayIpInUse, SubnetInUse}
use Rattle.api_types.specs.declared.refusal.UseRule.{UseRule}
use Rattle.api_types.specs.declared.subnet.SubnetRow.{SubnetRow}
use Rattle.net_settings.specs.Settings.{SettingsParts}
use Rattle.api_types.proofs.ListLemmas.{and_both, any-weaker}
use Rattle.api_types.proofs.NameLemmas.{bytes_same, ident_same}
use Rattle.apart_laws.proofs.FootingLemmas.{named_alike, named_near, near_alike, needing_alike, network_id, seen_here}
use Rattle.apart_laws.proofs.ListLemmas.{find_here}
use Rattle.apart_laws.proofs.ApartLemmas.{first_behind, first_same, head_none, needing_same, none_at, unless_same}
use Rattle.apart_laws.proofs.FoundTold.{found_there}
use Rattle.apart_laws.proofs.NearAlike.{chosen_alike, holder_on, mac_if_same, network_owner_alike, owns_is, then_named}
use Rattle.plan_subnets.proofs.DhcpAlike.{dhcp_address_same, dhcp_alike, makes_same}
use Rattle.apart_laws.proofs.OwnAlike.{network_passes, owned_port, owns_alike, quota_own, seen_user, users_told}
use Rattle.apart_laws.proofs.SubnetAlike.{owned_addresses, owned_macs, subnet_found, subnet_here}

module _ (settings : SettingsParts) (caller : Caller) (tenant : caller.admin ≡ false) (s t : State) (c : IsConsistent s.rows) (d : IsConsistent t.rows) (same : footing settings s caller ≡ footing settings t caller) where
  owned_dhcp : (i : Ident) → owns_network s.rows caller.project i ≡ true → option_map blank_port (dhcp_port_on s.rows.ports i) ≡ option_map blank_port (dhcp_port_on t.rows.ports i)
  owned_dhcp i owns = dhcp_alike settings caller tenant s t same i owns (sym (owns_alike settings caller tenant s t same i) ∙ owns)

  -- making a subnet

  creation_same : (n m : NetworkRow) → (k : ℕ) → slice_get s.rows.networks k ≡ Some n → blank n ≡ blank m → creation_refusal settings s.rows caller n ≡ creation_refusal settings t.rows caller m
  creation_same n m k at alike = first_same (network_owner s.rows caller true n.id) (network_owner t.rows caller true m.id) (over_quota settings s.rows n.project SubnetKind ∷ []) (over_quota settings t.rows m.project SubnetKind ∷ [])
      (network_owner_alike settings caller tenant s t same n.id true ∙ ap (λ z. network_owner t.rows caller true z.id) alike)
      (λ passes _. let own = bytes_same n.project caller.project (sym (owns_is s.rows c k n at caller.project) ∙ network_passes caller tenant s.rows n.id passes) in
      ap (λ o. first_refusal (o ∷ [])) (quota_own settings caller tenant s t same n.project own SubnetKind ∙ ap (λ z. over_quota settings t.rows z.project SubnetKind) alike))

  abbrev added : State → SubnetForm → NetworkRow → Bool → Outcome
  added state form n makes =
      needing (PoolsSpent n.id) (dhcp_address state.rows.ports n.id (dhcp_asked form) (new_subnet form n no_id)) (λ x.
      needing CountersSpent (mac_if makes state.rows.ports n.id) (λ mac.
      needing CountersSpent (drawing_at state n.project (if makes then 2 else 1)) (λ drawing.
      subnet_added settings caller drawing n (new_subnet form n (drawn_id drawing 0)) x mac)))

  added_alike : (form : SubnetForm) (n m : NetworkRow) → blank n ≡ blank m → owns_network s.rows caller.project n.id ≡ true → n.project ≡ caller.project
      → answer_alone (added s form n (makes_dhcp_port s.rows.ports n.id (dhcp_asked form))) ≡ answer_alone (added t form m (makes_dhcp_port t.rows.ports m.id (dhcp_asked form)))
  added_alike form n m alike owns own =
      let macs = (owned_macs settings caller tenant s t c d same) n.id owns in let addresses = (owned_addresses settings caller tenant s t c d same) n.id owns in let dhcp = owned_dhcp n.id owns in
      let makes = makes_same s.rows.ports t.rows.ports n.id macs addresses dhcp (dhcp_asked form) ∙ ap (λ z. makes_dhcp_port t.rows.ports z.id (dhcp_asked form)) alike in
      chosen_alike settings caller tenant s t same (PoolsSpent n.id)
      (dhcp_address s.rows.ports n.id (dhcp_asked form) (new_subnet form n no_id)) (dhcp_address t.rows.ports m.id (dhcp_asked form) (new_subnet form m no_id))
      (dhcp_address_same s.rows.ports t.rows.ports n.id macs addresses dhcp (dhcp_asked form) (new_subnet form n no_id) ∙ ap (λ z. dhcp_address t.rows.ports z.id (dhcp_asked form) (new_subnet form z no_id)) alike)
      (mac_if (makes_dhcp_port s.rows.ports n.id (dhcp_asked form)) s.rows.ports n.id) (mac_if (makes_dhcp_port t.rows.ports m.id (dhcp_asked form)) t.rows.ports m.id)
      (mac_if_same s.rows.ports t.rows.ports n.id macs (makes_dhcp_port s.rows.ports n.id (dhcp_asked form)) ∙ (λ j. mac_if (makes j) t.rows.ports (alike j).id))
      n.project own (if makes_dhcp_port s.rows.ports n.id (dhcp_asked form) then 2 else 1)
      (λ x mac drawing. subnet_added settings caller drawing n (new_subnet form n (drawn_id drawing 0)) x mac)
      (λ x mac drawing. subnet_added settings caller drawing m (new_subnet form m (drawn_id drawing 0)) x mac)
      (λ a mac x y at_x at_y counts. λ j. Told (NewRow (shown_as SubnetKind caller.admin [] (subnet_members (new_subnet form (alike j) (ident (counts j).0 ((counts j).1 + 0)))))))
      ∙ (λ j. answer_alone (needing (PoolsSpent (alike j).id) (dhcp_address t.rows.ports m.id (dhcp_asked form) (new_subnet form m no_id)) (λ x.
      needing CountersSpent (mac_if (makes_dhcp_port t.rows.ports m.id (dhcp_asked form)) t.rows.ports m.id) (λ mac.
      needing CountersSpent (drawing_at t (alike j).project (if makes j then 2 else 1)) (λ drawing.
      subnet_added settings caller drawing m (new_subnet form m (drawn_id drawing 0)) x mac)))))

  pub subnet_created_apart : (form : SubnetForm) → answer_alone (subnet_created settings s caller form) ≡ answer_alone (subnet_created settings t caller form)
  subnet_created_apart form =
      unless_same (bad_parts form) (bad_parts form) (unless (cidr s) (unless subnet (on s))) (unless (cidr t) (unless subnet (on t))) refl
      (λ _ _. unless_same (cidr s) (cidr t) (unless subnet (on s)) (unless subnet (on t)) cidr_same
      (λ _ _. unless_same subnet subnet (on s) (on t) refl
      (λ _ _. named_alike settings caller s t same (not_found NetworkKind (text_of name)) name (made s) (made t)
      (λ n m found_n found_m alike. let at_n = seen_here s.rows caller name n found_n in
      unless_same (creation_refusal settings s.rows caller n) (creation_refusal settings t.rows caller m)
      (added s form n (makes_dhcp_port s.rows.ports n.id (dhcp_asked form))) (added t form m (makes_dhcp_port t.rows.ports m.id (dhcp_asked form)))
      (creation_same n m at_n.0 at_n.1 alike)
      (λ passes _. let owns = network_passes caller tenant s.rows n.id (head_none (network_owner s.rows caller true n.id) (over_quota settings s.rows n.project SubnetKind ∷ []) passes) in
      added_alike form n m alike owns (bytes_same n.project caller.project (sym (owns_is s.rows c at_n.0 n at_n.1 caller.project) ∙ owns)))))))
    where
      name : Option Ident
      name = value_of form.network_id

      subnet : Option Refusal
      subnet = bad_subnet (prefix_asked form) (gateway_asked form) (pools_asked form)

      cidr : State → Option Refusal
      cidr state = option_and_then (bad_cidr state.rows (prefix_asked form)) (network_seen state.rows caller name)

      cidr_same : cidr s ≡ cidr t
      cidr_same = then_named settings caller tenant s t same name (bad_cidr s.rows (prefix_asked form)) (bad_cidr t.rows (prefix_asked form))
          (λ n m found_n found_m alike. ap (λ (z : Near). when (list_any (λ (r : SubnetRow). overlaps (prefix_asked form) r.prefix) z.subnets) (Invalid (codes "cidr")))
          (near_alike settings caller s t same n m (named_near s.rows caller name n found_n) alike))

      made : State → NetworkRow → Outcome
      made state n = subnet_made settings state caller form n (makes_dhcp_port state.rows.ports n.id (dhcp_asked form))

      on : State → Outcome
      on state = needing (not_found NetworkKind (text_of name)) (network_seen state.rows caller name) (made state)

  -- the users of a subnet are on its network
  users_on : (state : State) → IsConsistent state.rows → (name : Option Ident) (r : SubnetRow) → subnet_seen state.rows caller name ≡ Some r → owns_network state.rows caller.project r.network ≡ true
      → (test : PortRow → Bool) → ((p : PortRow) → test p ≡ true → holds_in r.id p ≡ true) → Each (λ p. test p ≡ true → sees_port state.rows caller p ≡ true) state.rows.ports
  users_on state e name r found owns test holds l p at_p uses =
      let here = (subnet_here settings caller tenant s t c d same) state name r found in
      owned_port state.rows caller r.network owns p (holder_on state.rows e here.0 r here.1 l p at_p (holds p uses))

  used_alike : (rule : UseRule) (name : Option Ident) (r : SubnetRow) → subnet_seen s.rows caller name ≡ Some r → subnet_seen t.rows caller name ≡ Some r → owns_network s.rows caller.project r.network ≡ true
      → (test : PortRow → Bool) → ((p : PortRow) → test (blank_port p) ≡ test p) → ((p : PortRow) → test p ≡ true → holds_in r.id p ≡ true)
      → option_map (used_by_port s.rows caller rule SubnetKind r.id) (find test s.rows.ports) ≡ option_map (used_by_port t.rows caller rule SubnetKind r.id) (find test t.rows.ports)
  used_alike rule name r found_s found_t owns test blind holds =
      users_told s.rows caller c rule SubnetKind r.id test blind (users_on s c name r found_s owns test holds)
      ∙ (ap (λ f. option_map (seen_user rule SubnetKind r.id) (find test f.ports)) same
      ∙ sym (users_told t.rows caller d rule SubnetKind r.id test blind (users_on t d name r found_t (sym (owns_alike settings caller tenant s t same r.network) ∙ owns) test holds)))

  gateway_alike : (name : Option Ident) (r new : SubnetRow) → subnet_seen s.rows caller name ≡ Some r → subnet_seen t.rows caller name ≡ Some r → owns_network s.rows caller.project r.network ≡ true
      → old_gateway_in_use s.rows caller r new ≡ old_gateway_in_use t.rows caller r new
  gateway_alike name r new found_s found_t owns = by r.gateway
    where
      changed : (x : Addr) (b : Bool)
          → option_map (used_by_port s.rows caller GatewayIpInUse SubnetKind r.id) (if b then None else find (holds_gateway r x) s.rows.ports)
          ≡ option_map (used_by_port t.rows caller GatewayIpInUse SubnetKind r.id) (if b then None else find (holds_gateway r x) t.rows.ports)
      changed x true = refl
      changed x false = used_alike GatewayIpInUse name r found_s found_t owns (holds_gateway r x) (λ p. refl)
          (λ p uses. any-weaker (λ (f : Fixed). ident_eq r.id f.subnet && addr_eq f.address x) (λ (f : Fixed). ident_eq r.id f.subnet) p.fixed (λ f h. (and_both (ident_eq r.id f.subnet) (addr_eq f.address x) h).0)
          (and_both (is_interface p.owner) (list_any (λ (f : Fixed). ident_eq r.id f.subnet && addr_eq f.address x) p.fixed) uses).1)

      by : (o : Option Addr)
          → option_map (used_by_port s.rows caller GatewayIpInUse SubnetKind r.id) (gateway_user s.rows.ports r o new.gateway)
          ≡ option_map (used_by_port t.rows caller GatewayIpInUse SubnetKind r.id) (gateway_user t.rows.ports r o new.gateway)
      by None = refl
      by (Some x) = changed x (is_some_so (λ y. addr_eq y x) new.gateway)

  -- changing a subnet

  update_same : (form : SubnetForm) (name : Option Ident) (r : SubnetRow) → subnet_seen s.rows caller name ≡ Some r → subnet_seen t.rows caller name ≡ Some r
      → update_refusal s.rows caller form r (changed_subnet form r) ≡ update_refusal t.rows caller form r (changed_subnet form r)
  update_same form name r found_s found_t =
      first_behind (bad_versions r.prefix.base form ∷ bad_subnet r.prefix (changed_subnet form r).gateway (changed_subnet form r).pools ∷ bad_dhcp form r ∷ [])
      (network_owner s.rows caller true r.network ∷ old_gateway_in_use s.rows caller r (changed_subnet form r) ∷ []) (network_owner t.rows caller true r.network ∷ old_gateway_in_use t.rows caller r (changed_subnet form r) ∷ [])
      (λ _. first_same (network_owner s.rows caller true r.network) (network_owner t.rows caller true r.network)
      (old_gateway_in_use s.rows caller r (changed_subnet form r) ∷ []) (old_gateway_in_use t.rows caller r (changed_subnet form r) ∷ [])
      (network_owner_alike settings caller tenant s t same r.network true)
      (λ passes _. ap (λ o. first_refusal (o ∷ [])) (gateway_alike name r (changed_subnet form r) found_s found_t (network_passes caller tenant s.rows r.network passes))))

  abbrev replaced : State → SubnetForm → NetworkRow → SubnetRow → SubnetRow → Bool → Outcome
  replaced state form n old new makes =
      needing (PoolsSpent n.id) (dhcp_address state.rows.ports n.id (new.dhcp && not old.dhcp) new) (λ x.
      needing CountersSpent (mac_if makes state.rows.ports n.id) (λ mac.
      needing CountersSpent (drawing_at state n.project (if makes then 1 else 0)) (λ drawing.
      accepted drawing.rows (subnet_edits settings drawing.rows n old new (drawn_id drawing 0) mac (fixed_at new.id x))
      (λ rows. OneRow (subnet_shown rows caller new [])))))

  replaced_alike : (form : SubnetForm) (n m : NetworkRow) (old new : SubnetRow) → n.id ≡ m.id → n.project ≡ caller.project → m.project ≡ caller.project → owns_network s.rows caller.project n.id ≡ true
      → answer_alone (replaced s form n old new (makes_dhcp_port s.rows.ports n.id (new.dhcp && not old.dhcp))) ≡ answer_alone (replaced t form m old new (makes_dhcp_port t.rows.ports m.id (new.dhcp && not old.dhcp)))
  replaced_alike form n m old new ids own own' owns =
      let macs = (owned_macs settings caller tenant s t c d same) n.id owns in let addresses = (owned_addresses settings caller tenant s t c d same) n.id owns in let dhcp = owned_dhcp n.id owns in
      let makes = makes_same s.rows.ports t.rows.ports n.id macs addresses dhcp begins ∙ ap (λ i. makes_dhcp_port t.rows.ports i begins) ids in
      chosen_alike settings caller tenant s t same (PoolsSpent n.id) (dhcp_address s.rows.ports n.id begins new) (dhcp_address t.rows.ports m.id begins new)
      (dhcp_address_same s.rows.ports t.rows.ports n.id macs addresses dhcp begins new ∙ ap (λ i. dhcp_address t.rows.ports i begins new) ids)
      (mac_if (makes_dhcp_port s.rows.ports n.id begins) s.rows.ports n.id) (mac_if (makes_dhcp_port t.rows.ports m.id begins) t.rows.ports m.id)
      (mac_if_same s.rows.ports t.rows.ports n.id macs (makes_dhcp_port s.rows.ports n.id begins) ∙ (λ j. mac_if (makes j) t.rows.ports (ids j)))
      n.project own (if makes_dhcp_port s.rows.ports n.id begins then 1 else 0)
      (λ x mac drawing. accepted drawing.rows (subnet_edits settings drawing.rows n old new (drawn_id drawing 0) mac (fixed_at new.id x)) (λ rows. OneRow (subnet_shown rows caller new [])))
      (λ x mac drawing. accepted drawing.rows (subnet_edits settings drawing.rows m old new (drawn_id drawing 0) mac (fixed_at new.id x)) (λ rows. OneRow (subnet_shown rows caller new [])))
      (λ a mac x y at_x at_y counts. refl)
      ∙ (λ j. answer_alone (needing (PoolsSpent (ids j)) (dhcp_address t.rows.ports m.id begins new) (λ x.
      needing CountersSpent (mac_if (makes_dhcp_port t.rows.ports m.id begins) t.rows.ports m.id) (λ mac.
      needing CountersSpent (drawing_at t ((own ∙ sym own') j) (if makes j then 1 else 0)) (λ drawing.
      accepted drawing.rows (subnet_edits settings drawing.rows m old new (drawn_id drawing 0) mac (fixed_at new.id x)) (λ rows. OneRow (subnet_shown rows caller new [])))))))
    where
      begins : Bool
      begins = new.dhcp && not old.dhcp

  pub subnet_updated_apart : (name : IdText) (form : SubnetForm) → answer_alone (subnet_updated settings s caller name form) ≡ answer_alone (subnet_updated settings t caller name form)
  subnet_updated_apart name form = needing_same refusal (subnet_seen s.rows caller name.id) (subnet_seen t.rows caller name.id) (on s) (on t) ((subnet_found settings caller tenant s t c d same) name.id)
      (λ r found_s found_t.
      let here = (subnet_here settings caller tenant s t c d same) s name.id r found_s in let there = (subnet_here settings caller tenant s t c d same) t name.id r found_t in
      let n0 = found_there (λ (n : NetworkRow). ident_eq r.network n.id) s.rows.networks (c.named.networks.of_subnets here.0 r here.1) in
      let m0 = found_there (λ (n : NetworkRow). ident_eq r.network n.id) t.rows.networks (d.named.networks.of_subnets there.0 r there.1) in
      needing_alike refusal (row_of network_id r.network s.rows.networks) (row_of network_id r.network t.rows.networks) (λ n. subnet_changed settings s caller form n r (changed_subnet form r)) (λ n. subnet_changed settings t caller form n r (changed_subnet form r))
      (ap is_some n0.1 ∙ sym (ap is_some m0.1))
      (λ n m found_n found_m.
      let at_n = find_here (λ (z : NetworkRow). ident_eq r.network z.id) s.rows.networks n found_n in
      let at_m = find_here (λ (z : NetworkRow). ident_eq r.network z.id) t.rows.networks m found_m in
      let is_n = ident_same r.network n.id at_n.2 in let is_m = ident_same r.network m.id at_m.2 in
      unless_same (update_refusal s.rows caller form r (changed_subnet form r)) (update_refusal t.rows caller form r (changed_subnet form r))
      (replaced s form n r (changed_subnet form r) (makes_dhcp_port s.rows.ports n.id ((changed_subnet form r).dhcp && not r.dhcp)))
      (replaced t form m r (changed_subnet form r) (makes_dhcp_port t.rows.ports m.id ((changed_subnet form r).dhcp && not r.dhcp)))
      (update_same form name.id r found_s found_t)
      (λ passes also.
      let owns_n = ap (owns_network s.rows caller.project) (sym is_n) ∙ network_passes caller tenant s.rows r.network (none_at (refusals s r) passes 3 (network_owner s.rows caller true r.network) refl) in
      let owns_m = ap (owns_network t.rows caller.project) (sym is_m) ∙ network_passes caller tenant t.rows r.network (none_at (refusals t r) also 3 (network_owner t.rows caller true r.network) refl) in
      replaced_alike form n m r (changed_subnet form r) (sym is_n ∙ is_m)
      (bytes_same n.project caller.project (sym (owns_is s.rows c at_n.0 n at_n.1 caller.project) ∙ owns_n)) (bytes_same m.project caller.project (sym (owns_is t.rows d at_m.0 m at_m.1 caller.project) ∙ owns_m)) owns_n)))
    where
      refusal : Refusal
      refusal = not_found SubnetKind name.text

      on : State → SubnetRow → Outcome
      on state r = needing refusal (row_of network_id r.network state.rows.networks) (λ n. subnet_changed settings state caller form n r (changed_subnet form r))

      refusals : State → SubnetRow → List (Option Refusal)
      refusals state r = bad_versions r.prefix.base form ∷ bad_subnet r.prefix (changed_subnet form r).gateway (changed_subnet form r).pools ∷ bad_dhcp form r
          ∷ network_owner state.rows caller true r.network ∷ old_gateway_in_use state.rows caller r (changed_subnet form r) ∷ []

  -- taking a subnet out

  pub subnet_deleted_apart : (name : IdText) → answer_alone (subnet_deleted s caller name) ≡ answer_alone (subnet_deleted t caller name)
  subnet_deleted_apart name = needing_same (not_found SubnetKind name.text) (subnet_seen s.rows caller name.id) (subnet_seen t.rows caller name.id)
      (λ r. unless (deletion_refusal s caller r) (accepted s.rows (subnet_gone s.rows r) (λ rows. NoRow))) (λ r. unless (deletion_refusal t caller r) (accepted t.rows (subnet_gone t.rows r) (λ rows. NoRow)))
      ((subnet_found settings caller tenant s t c d same) name.id)
      (λ r found_s found_t. unless_same (deletion_refusal s caller r) (deletion_refusal t caller r) (accepted s.rows (subnet_gone s.rows r) (λ rows. NoRow)) (accepted t.rows (subnet_gone t.rows r) (λ rows. NoRow))
      (first_same (network_owner s.rows caller true r.network) (network_owner t.rows caller true r.network)
      (subnet_in_use s.rows caller r.id ∷ when (is_last s) CountersSpent ∷ []) (subnet_in_use t.rows caller r.id ∷ when (is_last t) CountersSpent ∷ [])
      (network_owner_alike settings caller tenant s t same r.network true)
      (λ passes _. let used = used_alike SubnetInUse name.id r found_s found_t (network_passes caller tenant s.rows r.network passes) (is_subnet_user r.id) (λ p. refl)
      (λ p uses. (and_both (not (is_dhcp p.owner)) (holds_in r.id p) uses).1) in
      (λ j. first_refusal (used j ∷ when (same j).is_last CountersSpent ∷ []))))
      (λ _ _. refl))
