-- The keys `vxlan_first` and `vxlan_last`: numbers of vxlan networks, 1 to 16777215 (24 bits, RFC
-- 7348), the first at most the last. Absent, they are 1 and 1000.
use Rattle.std.specs.Prelude.{ℕ, ℤ, ◌&&◌, nat_le, nat_lt, codes, pos, negsuc, Option, Some, None, option_and_then, if◌then◌else◌}
use Rattle.toml.specs.Data.{Data, Members, get_member, as_integer}

-- a whole number that a vxlan network may have
abbrev pub if_vxlan : ℤ → Option ℕ
if_vxlan (pos n) = if nat_le 1 n && nat_le n 16777215 then Some n else None
if_vxlan (negsuc n) = None

-- the number of a vxlan network that a value is
abbrev pub vxlan_number : Data → Option ℕ
vxlan_number d = option_and_then if_vxlan (as_integer d)

-- a number, or its default where it is absent
abbrev pub vxlan_from : ℕ → Option Data → Option ℕ
vxlan_from default None = Some default
vxlan_from default (Some d) = vxlan_number d

-- the last number that the settings have, or none where the key breaks its rule
abbrev pub vxlan_last_in : Members → Option ℕ
vxlan_last_in ms = vxlan_from 1000 (get_member (codes "vxlan_last") ms)

-- the number, unless it is above a last number that keeps its own rule
abbrev pub unless_above : Option ℕ → ℕ → Option ℕ
unless_above None n = Some n
unless_above (Some last) n = if nat_lt last n then None else Some n

-- the first number that the settings have, or none where the key breaks its rule
abbrev pub vxlan_first_in : Members → Option ℕ
vxlan_first_in ms =
    option_and_then (unless_above (vxlan_last_in ms))
    (vxlan_from 1 (get_member (codes "vxlan_first") ms))
