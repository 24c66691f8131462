-- A network that a call makes, for a project that is there or a new one, keeps rows consistent.
use Rattle.std.proofs.Common.{◌≡◌, ℕ, ◌+◌, ◌<◌, ◌≤◌, ◌^◌, List, true, false, Some, length, not, ap, sym, ◌∙◌, arith, subst}
use Rattle.std.specs.List.{list_any}
use Rattle.std.proofs.lemmas.Bool.Decides.{Decides-eqb}
use Rattle.api_types.specs.Lists.{is_empty}
use Rattle.api_types.specs.RowLists.{RowLists}
use Rattle.api_types.specs.Registration.{Drawing, draw_of}
use Rattle.api_types.specs.Consistent.{IsConsistent}
use Rattle.api_types.specs.Consistent.Numbered.{times_in, is_drawn}
use Rattle.api_types.specs.Consistent.Named.{is_registered}
use Rattle.api_types.specs.Consistent.Segments.{same_segment, most_networks, is_vxlan}
use Rattle.api_types.specs.declared.network.NetworkRow.{NetworkRow}
use Rattle.api_types.specs.declared.network.Segment.{Segment}
use Rattle.api_types.specs.declared.network.Segment.TheVariants.{Local, Flat, Vlan, Vxlan}
use Rattle.row_laws.specs.NewRows.{with_network, IsAlone}
use Rattle.row_laws.specs.NewNetwork.{IsMadeNetwork}
use Rattle.api_types.proofs.ListLemmas.{none-any, count-none}
use Rattle.api_types.proofs.NameLemmas.{fails_by}
use Rattle.row_laws.proofs.DrawnKept.{draws}
use Rattle.row_laws.proofs.NetworkPushed.{network_pushed}

-- a segment equal to a vxlan one is vxlan with that number
same_vxlan : (segment other : Segment) (n : ℕ) → same_segment segment (Vxlan n) ≡ true → same_segment segment other ≡ true → is_vxlan n other ≡ true
same_vxlan Local other n h g = cc
same_vxlan (Flat a) other n h g = cc
same_vxlan (Vlan a s) other n h g = cc
same_vxlan (Vxlan m) Local n h g = cc
same_vxlan (Vxlan m) (Flat a) n h g = cc
same_vxlan (Vxlan m) (Vlan a s) n h g = cc
same_vxlan (Vxlan m) (Vxlan k) n h g = let e = (Decides-eqb m n).0 h in let f = (Decides-eqb m k).0 g in (Decides-eqb k n).1 (sym f ∙ e)

-- a number that no network has is a segment that none has
pub vxlan_alone : (networks : List NetworkRow) (n : ℕ) → list_any (λ m. is_vxlan n m.segment) networks ≡ false → IsAlone networks (Vxlan n)
vxlan_alone networks n free segment same = count-none (λ m. same_segment segment m.segment) networks (λ k m at.
    fails_by (same_segment segment m.segment) (is_vxlan n m.segment) (same_vxlan segment m.segment n same) (none-any (λ m. is_vxlan n m.segment) networks free k m at))

pub network_created : (rows : RowLists) (name : List ℕ) (many : ℕ) (d : Drawing) (n : NetworkRow) → IsConsistent rows → not (is_empty name) ≡ true → 1 ≤ many → 5 + many < 2 ^ 62
    → draw_of rows name many ≡ Some d → IsMadeNetwork rows name d n → IsConsistent (with_network d.rows n)
network_created rows name many d n c has_name some room drawing made =
    let drawn = draws rows name many d c has_name room drawing in
    network_pushed d.rows n (record {
      fresh = ap (times_in d.rows) made.id ∙ drawn.fresh 0 (omega (arith, some));
      drawn = ap (is_drawn d.rows.projects) made.id ∙ drawn.drawn 0 (omega (arith, some));
      project = ap (is_registered d.rows.projects) made.project ∙ drawn.project;
      segment = made.segment;
      alone = subst (λ networks. IsAlone networks n.segment) (sym drawn.networks) made.alone;
      few = subst (λ networks. length networks < most_networks) (sym drawn.networks) made.few;
    }) drawn.consistent
