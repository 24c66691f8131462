-- Which segment a new network takes (Neutron's ML2 plug-in: provider attributes, and `vni_ranges`
-- of tenant networks).
use Rattle.api_types.specs.Least.{least_from}
use Rattle.api_types.specs.Given.{value_of, value_or}
use Rattle.api_ml2.specs.Numbers.{is_taken}
use Rattle.api_types.specs.Consistent.Segments.{most_networks, same_segment}
use Rattle.api_types.specs.Lists.{if_some, is_some_so}
use Rattle.api_types.specs.declared.form.NetworkForm.{NetworkForm}
use Rattle.api_types.specs.declared.form.NetworkType.TheVariants.{Local as LocalType, Flat as FlatType, Vlan as VlanType, Vxlan as VxlanType}
use Rattle.api_types.specs.declared.form.NetworkType.{NetworkType}
use Rattle.api_types.specs.declared.network.NetworkRow.{NetworkRow}
use Rattle.api_types.specs.declared.network.Segment.TheVariants.{Local, Flat, Vlan, Vxlan}
use Rattle.api_types.specs.declared.network.Segment.{Segment}
use Rattle.api_types.specs.declared.refusal.Refusal.TheVariants.{SegmentInUse}
use Rattle.api_types.specs.declared.refusal.Refusal.{Refusal}
use Rattle.net_settings.specs.Settings.{SettingsParts}
use Rattle.std.specs.Prelude.{Bool, List, None, Option, Some, [], cond, false, find, if◌then◌else◌, is_none, is_some, length, nat_le, not, option_map, true, ℕ, ◌&&◌, ◌+◌, ◌-◌}
use Rattle.net_addr.specs.Words.{Text}

-- the rules of the provider attributes

-- a physical network is named for flat and vlan, and for nothing else
abbrev pub is_wired : Option NetworkType → Bool
is_wired (Some FlatType) = true
is_wired (Some VlanType) = true
is_wired (Some LocalType) = false
is_wired (Some VxlanType) = false
is_wired None = false

abbrev pub is_bad_physical : NetworkForm → Bool
is_bad_physical form =
    cond (is_wired (value_of form.provider_network_type))
    (is_none (value_of form.provider_physical_network))
    (is_some (value_of form.provider_physical_network))

-- a vlan tag is from 1 to 4094 and has to be given, a vxlan number from 1 to 16777215 and may be
abbrev pub fits_type : Option NetworkType → Option ℕ → Bool
fits_type (Some VlanType) n = is_some_so (λ k. nat_le 1 k && nat_le k 4094) n
fits_type (Some VxlanType) n = if_some (λ k. nat_le 1 k && nat_le k 16777215) n
fits_type (Some LocalType) n = is_none n
fits_type (Some FlatType) n = is_none n
fits_type None n = is_none n

abbrev pub is_bad_number : NetworkForm → Bool
is_bad_number form =
    not (fits_type (value_of form.provider_network_type) (value_of form.provider_segmentation_id))

-- the segment that is asked for; none where any free vxlan number will do
abbrev pub segment_of_type : Option NetworkType → Text → Option ℕ → Option Segment
segment_of_type (Some LocalType) physical n = Some Local
segment_of_type (Some FlatType) physical n = Some (Flat physical)
segment_of_type (Some VlanType) physical n = option_map (Vlan physical) n
segment_of_type (Some VxlanType) physical n = option_map Vxlan n
segment_of_type None physical n = None

abbrev pub asked_segment : NetworkForm → Option Segment
asked_segment form =
    segment_of_type (value_of form.provider_network_type)
    (value_or [] form.provider_physical_network) (value_of form.provider_segmentation_id)

-- another network has the segment that is asked for
abbrev pub network_with : List NetworkRow → Segment → Option NetworkRow
network_with networks segment = find (λ (n : NetworkRow). same_segment segment n.segment) networks

abbrev pub segment_in_use : List NetworkRow → Option Segment → Option Refusal
segment_in_use networks None = None
segment_in_use networks (Some segment) =
    option_map (λ (n : NetworkRow). SegmentInUse segment n.id) (network_with networks segment)

-- the least number of the settings' range that no network has
abbrev pub least_number : SettingsParts → List NetworkRow → Option ℕ
least_number settings networks =
    least_from (λ n. not (is_taken networks n)) settings.vxlan_first
    (settings.vxlan_last + 1 - settings.vxlan_first)

abbrev pub segment_or : SettingsParts → List NetworkRow → Option Segment → Option Segment
segment_or settings networks (Some segment) = Some segment
segment_or settings networks None = option_map Vxlan (least_number settings networks)

-- the segment of a new network, while fewer than 4,000 networks stand
abbrev pub chosen_segment : SettingsParts → List NetworkRow → Option Segment → Option Segment
chosen_segment settings networks asked =
    if nat_le most_networks (length networks) then None else segment_or settings networks asked
