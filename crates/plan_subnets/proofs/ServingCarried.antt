-- What the settings let hosts carry stays so where a DHCP port comes, changes or goes.
use Rattle.std.proofs.Common.{Bool, List, refl, true, ◌∷◌, ◌≡◌, None, Option, Some, false, slice_get, ◌++◌, [], ℕ}
use Rattle.api_types.specs.Consistent.Carried.{AreCarried}
use Rattle.api_types.specs.Lists.{Each}
use Rattle.api_types.specs.RowLists.{RowLists}
use Rattle.api_types.specs.declared.kind.Row.TheVariants.{Port}
use Rattle.api_types.specs.declared.network.NetworkRow.{NetworkRow}
use Rattle.api_types.specs.declared.network.Segment.{Segment}
use Rattle.api_types.specs.declared.port.PortRow.{PortRow}
use Rattle.kept_laws.proofs.FixedFits.{each_append, each_cons, each_none}
use Rattle.kept_laws.proofs.ServiceMade.{bound_carried}
use Rattle.plan_subnets.specs.DhcpUpkeep.{begin_serving, dhcp_port_on, end_serving, new_dhcp_port, port_left, serving, unserving}
use Rattle.api_types.specs.declared.port.Fixed.{Fixed}
use Rattle.api_ml2.specs.Placement.{dhcp_host, host_or_none}
use Rattle.api_types.specs.Owners.{is_dhcp_of}
use Rattle.call_parts.specs.Leaving.{disassociations}
use Rattle.call_parts.specs.Edits.{Add, Put}
use Rattle.api_ml2.specs.Carrying.{carries}
use Rattle.kept_laws.proofs.OutcomeLemmas.{found_at}
use Rattle.api_types.specs.Ident.{Ident}
use Rattle.net_settings.specs.Settings.{SettingsParts}
use Rattle.row_laws.specs.Leased.{outside}
use Rattle.kept_laws.proofs.CarriedKept.{IsCarried, IsCarriedEdit, disassociations_carried}

-- a DHCP port is bound to a host that can carry its network, or stays where it is
pub begin_carried : (settings : SettingsParts) (rows : RowLists) (n : NetworkRow) (k : ℕ) → slice_get rows.networks k ≡ Some n → (b : Bool) (i : Ident) (mac : ℕ) (f : Fixed) → AreCarried (carries settings.hosts) rows.networks rows.ports
    → Each (IsCarriedEdit (carries settings.hosts) rows.networks) (begin_serving settings rows n b i mac f)
begin_carried settings rows n k at false i mac f c = each_none (IsCarriedEdit (carries settings.hosts) rows.networks)
begin_carried settings rows n k at true i mac f c = by (dhcp_port_on rows.ports n.id) refl
  where
    by : (o : Option PortRow) → dhcp_port_on rows.ports n.id ≡ o → Each (IsCarriedEdit (carries settings.hosts) rows.networks) (serving settings n o i mac f)
    by None e = each_cons (IsCarriedEdit (carries settings.hosts) rows.networks) (Add (Port (new_dhcp_port settings n i mac f))) [] (bound_carried settings rows.networks k n at (host_or_none (dhcp_host settings n.segment)))
        (each_none (IsCarriedEdit (carries settings.hosts) rows.networks))
    by (Some p) e = let found = found_at (is_dhcp_of n.id) rows.ports p e in
        each_cons (IsCarriedEdit (carries settings.hosts) rows.networks) (Put (Port (record p { fixed = p.fixed ++ f ∷ [] }))) [] (c.at_host found.0 p found.1) (each_none (IsCarriedEdit (carries settings.hosts) rows.networks))

pub end_carried : (can : List ℕ → Segment → Bool) (rows : RowLists) (network : Ident) (b : Bool) (subnet : Ident) → AreCarried can rows.networks rows.ports → Each (IsCarriedEdit can rows.networks) (end_serving rows network b subnet)
end_carried can rows network false subnet c = each_none (IsCarriedEdit can rows.networks)
end_carried can rows network true subnet c = by (dhcp_port_on rows.ports network) refl
  where
    left : (p : PortRow) (fs : List Fixed) → IsCarried can rows.networks p → IsCarriedEdit can rows.networks (port_left p fs)
    left p [] h = tt
    left p (f ∷ fs) h = h

    by : (o : Option PortRow) → dhcp_port_on rows.ports network ≡ o → Each (IsCarriedEdit can rows.networks) (unserving rows o subnet)
    by None e = each_none (IsCarriedEdit can rows.networks)
    by (Some p) e =
        let found = found_at (is_dhcp_of network) rows.ports p e in
        let fs = outside subnet p.fixed in
        each_append (IsCarriedEdit can rows.networks) (disassociations rows.floatings p.id fs) (port_left p fs ∷ []) (disassociations_carried can rows.networks rows.floatings p.id fs)
        (each_cons (IsCarriedEdit can rows.networks) (port_left p fs) [] (left p fs (c.at_host found.0 p found.1)) (each_none (IsCarriedEdit can rows.networks)))
