-- What the types of values say of rows stays so where a DHCP port comes, changes or goes.
use Rattle.std.proofs.Common.{Bool, List, None, Option, Some, ap, false, refl, sym, true, ◌++◌, ◌<◌, ◌^◌, ◌∙◌, ◌∷◌, ◌≡◌, [], ℕ}
use Rattle.std.specs.Prelude.{is_none, ◌&&◌}
use Rattle.api_types.specs.Ident.{Ident}
use Rattle.api_types.specs.Lists.{Each}
use Rattle.api_types.specs.Owners.{is_dhcp_of}
use Rattle.api_types.specs.RowLists.{RowLists}
use Rattle.api_types.specs.declared.kind.Row.TheVariants.{Port}
use Rattle.api_types.specs.declared.network.NetworkRow.{NetworkRow}
use Rattle.api_types.specs.declared.port.Fixed.{Fixed}
use Rattle.api_types.specs.declared.port.PortRow.{PortRow}
use Rattle.kept_laws.proofs.FixedFits.{each_append, each_cons, each_none}
use Rattle.kept_laws.proofs.PoolHosts.{free_mac_is}
use Rattle.plan_subnets.specs.DhcpUpkeep.{begin_serving, dhcp_port_on, end_serving, makes_dhcp_port, new_dhcp_port, port_left, serving, unserving}
use Rattle.call_parts.specs.Edits.{Add, Put}
use Rattle.call_parts.specs.Leaving.{disassociations}
use Rattle.api_ipam.specs.MacChoice.{mac_if}
use Rattle.call_parts.specs.Typed.{AreTyped}
use Rattle.kept_laws.proofs.OutcomeLemmas.{found_at}
use Rattle.net_settings.specs.Settings.{SettingsParts}
use Rattle.row_laws.specs.Leased.{outside}
use Rattle.kept_laws.proofs.TypedKept.{IsTypedEdit, disassociations_typed}

-- the edits on a DHCP port, where a new one's MAC address has 48 bits
pub begin_typed : (settings : SettingsParts) (rows : RowLists) (n : NetworkRow) (b : Bool) (i : Ident) (mac : ℕ) (f : Fixed) → AreTyped rows → (b ≡ true → dhcp_port_on rows.ports n.id ≡ None → mac < 2 ^ 48)
    → Each IsTypedEdit (begin_serving settings rows n b i mac f)
begin_typed settings rows n false i mac f t small = each_none IsTypedEdit
begin_typed settings rows n true i mac f t small = by (dhcp_port_on rows.ports n.id) refl
  where
    by : (o : Option PortRow) → dhcp_port_on rows.ports n.id ≡ o → Each IsTypedEdit (serving settings n o i mac f)
    by None e = each_cons IsTypedEdit (Add (Port (new_dhcp_port settings n i mac f))) [] (small refl e) (each_none IsTypedEdit)
    by (Some p) e = let found = found_at (is_dhcp_of n.id) rows.ports p e in
        each_cons IsTypedEdit (Put (Port (record p { fixed = p.fixed ++ f ∷ [] }))) [] (t.macs found.0 p found.1) (each_none IsTypedEdit)

pub end_typed : (rows : RowLists) (network : Ident) (b : Bool) (subnet : Ident) → AreTyped rows → Each IsTypedEdit (end_serving rows network b subnet)
end_typed rows network false subnet t = each_none IsTypedEdit
end_typed rows network true subnet t = by (dhcp_port_on rows.ports network) refl
  where
    left : (p : PortRow) (fs : List Fixed) → p.mac < 2 ^ 48 → IsTypedEdit (port_left p fs)
    left p [] h = tt
    left p (f ∷ fs) h = h

    by : (o : Option PortRow) → dhcp_port_on rows.ports network ≡ o → Each IsTypedEdit (unserving rows o subnet)
    by None e = each_none IsTypedEdit
    by (Some p) e =
        let found = found_at (is_dhcp_of network) rows.ports p e in
        let fs = outside subnet p.fixed in
        each_append IsTypedEdit (disassociations rows.floatings p.id fs) (port_left p fs ∷ []) (disassociations_typed rows.floatings p.id fs)
        (each_cons IsTypedEdit (port_left p fs) [] (left p fs (t.macs found.0 p found.1)) (each_none IsTypedEdit))

-- a MAC address that is generated where a DHCP port comes along has 48 bits
pub made_small : (ports now : List PortRow) → now ≡ ports → (network : Ident) (b makes : Bool) (mac : ℕ) → makes ≡ makes_dhcp_port ports network b → mac_if makes ports network ≡ Some mac
    → b ≡ true → dhcp_port_on now network ≡ None → mac < 2 ^ 48
made_small ports now same network b makes mac makes_is mac_is begins none =
    let yes : makes ≡ true = makes_is ∙ (λ j. begins j && is_none ((ap (λ ps. dhcp_port_on ps network) (sym same) ∙ none) j)) in
    (free_mac_is ports network mac (ap (λ b. mac_if b ports network) (sym yes) ∙ mac_is)).small
