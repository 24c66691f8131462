-- Networks have segments of their own, and there are not too many.
use Rattle.std.specs.Prelude.{ℕ, ◌≤◌, ◌==◌, ◌&&◌, Bool, false, List, length, count_by}
use Rattle.std.specs.Str.{bytes_eq}
use Rattle.api_types.specs.declared.network.NetworkRow.{NetworkRow}
use Rattle.api_types.specs.declared.network.Segment.{Segment}
use Rattle.api_types.specs.declared.network.Segment.TheVariants.{Flat, Vlan, Vxlan}

-- whether frames of two networks would meet; those of local ones never leave their network
abbrev pub same_segment : Segment → Segment → Bool
same_segment (Flat a) (Flat b) = bytes_eq a b
same_segment (Vlan a s) (Vlan b t) = bytes_eq a b && (s == t)
same_segment (Vxlan m) (Vxlan n) = m == n
same_segment _ _ = false

abbrev pub most_networks : ℕ
most_networks = 4000

pub record SegmentsDiffer (networks : List NetworkRow) : Type 0 where
  pub apart : (segment : Segment) → count_by (λ n. same_segment segment n.segment) networks ≤ 1
  pub few : length networks ≤ most_networks

-- whether a segment is vxlan with this number
abbrev pub is_vxlan : ℕ → Segment → Bool
is_vxlan n (Vxlan number) = number == n
is_vxlan n _ = false
