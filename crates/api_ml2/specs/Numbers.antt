-- Which vxlan number a new network takes (RFC 7348; the range is Neutron's `vni_ranges`).
use Rattle.std.specs.Prelude.{ℕ, zero, suc, ◌+◌, ◌-◌, not, nat_le, Bool, List, [], ◌∷◌, Option, None, find, length, if◌then◌else◌}
use Rattle.std.specs.List.{list_any}
use Rattle.api_types.specs.declared.network.NetworkRow.{NetworkRow}
use Rattle.api_types.specs.Consistent.Segments.{most_networks, is_vxlan}
use Rattle.net_settings.specs.Settings.{SettingsParts}

-- some network has the number
abbrev pub is_taken : List NetworkRow → ℕ → Bool
is_taken networks n = list_any (λ (network : NetworkRow). is_vxlan n network.segment) networks

-- this many numbers, from the first on
unfoldable pub numbers : ℕ → ℕ → List ℕ
numbers first zero = []
numbers first (suc many) = first ∷ numbers (first + 1) many

-- the least number from the first on, of this many, that no network has
abbrev pub least_free : List NetworkRow → ℕ → ℕ → Option ℕ
least_free networks first many = find (λ n. not (is_taken networks n)) (numbers first many)

-- the least number of the settings' range, while fewer than 4,000 networks stand
abbrev pub free_number : SettingsParts → List NetworkRow → Option ℕ
free_number settings networks =
    if nat_le most_networks (length networks) then None
    else least_free networks settings.vxlan_first (settings.vxlan_last + 1 - settings.vxlan_first)
