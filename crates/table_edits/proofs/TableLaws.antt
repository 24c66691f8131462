-- For each table with a row at most for each row of a kind: edits at touched rows lead to the table
-- after a change, and are few.
use Rattle.std.proofs.Common.{◌≡◌, ℕ, List, Option, Some, None, Bool, false, ap, refl, subst, sym}
use Rattle.std.specs.Prelude.{if◌then◌else◌, nat_lt, option_and_then}
use Rattle.std.specs.List.{filter_map}
use Rattle.api_types.specs.Holders.{dhcp_port}
use Rattle.api_types.specs.Leases.{lease_for}
use Rattle.api_types.specs.Parts.{floating_of, port_of, router_of}
use Rattle.api_types.specs.RowLists.{RowLists}
use Rattle.api_types.specs.Rows.{after}
use Rattle.api_types.specs.RowsWith.{router_with}
use Rattle.api_types.specs.declared.change.Item.{Item}
use Rattle.api_types.specs.declared.floating.FloatingRow.{FloatingRow}
use Rattle.api_types.specs.declared.floating.Target.{Target}
use Rattle.api_types.specs.declared.kind.Kind.TheVariants.{Floating, Port, Router}
use Rattle.api_types.specs.declared.port.PortRow.{PortRow}
use Rattle.api_types.specs.declared.router.RouterRow.{RouterRow}
use Rattle.plane_types.specs.Keyed.{row_at}
use Rattle.plane_types.specs.KeyedTables.{hosted_router, keyed_floats, keyed_leases, keyed_routers, keyed_taps}
use Rattle.plane_types.specs.Numbered.{numbered_after, with_numbers}
use Rattle.plane_types.specs.NumberedRows.{numbered_rows, numbered_rows_after, row_items}
use Rattle.plane_types.specs.TableRows.{float_row_by, float_rows, is_hosted, lease_row, lease_rows, router_rows, tap_row, tap_rows}
use Rattle.plane_types.specs.declared.delta.Edit.{Edit}
use Rattle.plane_types.specs.declared.table.FloatRow.{FloatRow}
use Rattle.plane_types.specs.declared.table.LeaseRow.{LeaseRow}
use Rattle.plane_types.specs.declared.table.RouterTable.{RouterTable}
use Rattle.plane_types.specs.declared.table.TagRow.{TagRow}
use Rattle.plane_types.specs.declared.table.TapRow.{TapRow}
use Rattle.plane_types.proofs.LocalLemmas.{IsAlike, lease_same, tap_same}
use Rattle.plane_types.proofs.StayLemmas.{ports_after}
use Rattle.table_edits.specs.EditsAt.{AreEditsAt, KeysDescend, among}
use Rattle.table_edits.specs.Rewires.{Rewires}
use Rattle.table_edits.specs.Untouched.{StaysAlike}
use Rattle.table_edits.proofs.KindsAfter.{floatings_after, routers_after}
use Rattle.table_edits.proofs.NumberedLaw.{rows_lead, untouched_rows}

module _ (rows : RowLists) (items : List Item) (host : List ℕ) (old new : List TagRow) where
  abbrev now : RowLists
  now = after rows items

  abbrev pub port_before : ℕ → Option PortRow
  port_before k = row_at nat_lt k (with_numbers 0 rows.ports)

  abbrev pub port_after : ℕ → Option PortRow
  port_after k = row_at nat_lt k (numbered_after rows.ports (row_items Port port_of items))

  alike : (p : PortRow) → StaysAlike rows now old new p.network → IsAlike rows now old new p.network
  alike p s = record { up = s.up; on = s.on; tag = s.tag }

  -- an untouched port is as before, and so is what tables ask of its network
  pub record ArePortsTouched (ks : List ℕ) : Type 0 where
    pub down : KeysDescend nat_lt ks
    pub stay : (k : ℕ) → among nat_lt k ks ≡ false → port_before k ≡ port_after k
    pub networks : (k : ℕ) (p : PortRow) → among nat_lt k ks ≡ false → port_before k ≡ Some p → StaysAlike rows now old new p.network

  pub taps_lead : (ks : List ℕ) (es : List (Edit TapRow)) → ArePortsTouched ks
      → AreEditsAt nat_lt (keyed_taps (numbered_rows rows) host old) (λ k. option_and_then (tap_row now host new) (port_after k)) ks es
      → Rewires nat_lt (keyed_taps (numbered_rows rows) host old) (keyed_taps (numbered_rows_after rows items) host new) (tap_rows rows host old) (tap_rows now host new) es
  unfolding tap_rows
  taps_lead ks es touched are =
      subst (λ (ports : List PortRow). Rewires nat_lt (keyed_taps (numbered_rows rows) host old) (keyed_taps (numbered_rows_after rows items) host new)
      (filter_map (tap_row rows host old) rows.ports) (filter_map (tap_row now host new) ports) es) (sym (ports_after rows items))
      (rows_lead rows.ports (row_items Port port_of items) (tap_row rows host old) (tap_row now host new) ks es touched.down are
      (untouched_rows rows.ports (row_items Port port_of items) (tap_row rows host old) (tap_row now host new) ks touched.stay
      (λ k p away at. tap_same rows now host old new p (alike p (touched.networks k p away at)))))

  -- a port's lease stays where its network is served as before, by what it leases to the port
  pub leases_lead : (ks : List ℕ) (es : List (Edit LeaseRow)) → ArePortsTouched ks
      → ((k : ℕ) (p : PortRow) → among nat_lt k ks ≡ false → port_before k ≡ Some p → dhcp_port rows p.network ≡ dhcp_port now p.network)
      → ((k : ℕ) (p d : PortRow) → among nat_lt k ks ≡ false → port_before k ≡ Some p → lease_for rows d p ≡ lease_for now d p)
      → AreEditsAt nat_lt (keyed_leases (numbered_rows rows) host old) (λ k. option_and_then (lease_row now host new) (port_after k)) ks es
      → Rewires nat_lt (keyed_leases (numbered_rows rows) host old) (keyed_leases (numbered_rows_after rows items) host new) (lease_rows rows host old) (lease_rows now host new) es
  unfolding lease_rows
  leases_lead ks es touched serving leased are =
      subst (λ (ports : List PortRow). Rewires nat_lt (keyed_leases (numbered_rows rows) host old) (keyed_leases (numbered_rows_after rows items) host new)
      (filter_map (lease_row rows host old) rows.ports) (filter_map (lease_row now host new) ports) es) (sym (ports_after rows items))
      (rows_lead rows.ports (row_items Port port_of items) (lease_row rows host old) (lease_row now host new) ks es touched.down are
      (untouched_rows rows.ports (row_items Port port_of items) (lease_row rows host old) (lease_row now host new) ks touched.stay
      (λ k p away at. lease_same rows now host old new p (alike p (touched.networks k p away at)) (serving k p away at) (λ d. leased k p d away at))))

  abbrev pub router_before : ℕ → Option RouterRow
  router_before k = row_at nat_lt k (with_numbers 0 rows.routers)

  abbrev pub router_after : ℕ → Option RouterRow
  router_after k = row_at nat_lt k (numbered_after rows.routers (row_items Router router_of items))

  pub routers_lead : (ks : List ℕ) (es : List (Edit RouterTable)) → KeysDescend nat_lt ks
      → ((k : ℕ) → among nat_lt k ks ≡ false → router_before k ≡ router_after k)
      → ((k : ℕ) (r : RouterRow) → among nat_lt k ks ≡ false → router_before k ≡ Some r → hosted_router (numbered_rows rows) host old r ≡ hosted_router (numbered_rows_after rows items) host new r)
      → AreEditsAt nat_lt (keyed_routers (numbered_rows rows) host old) (λ k. option_and_then (hosted_router (numbered_rows_after rows items) host new) (router_after k)) ks es
      → Rewires nat_lt (keyed_routers (numbered_rows rows) host old) (keyed_routers (numbered_rows_after rows items) host new) (router_rows rows host old) (router_rows now host new) es
  unfolding router_rows
  routers_lead ks es down stay same are =
      subst (λ (routers : List RouterRow). Rewires nat_lt (keyed_routers (numbered_rows rows) host old) (keyed_routers (numbered_rows_after rows items) host new)
      (filter_map (hosted_router (numbered_rows rows) host old) rows.routers) (filter_map (hosted_router (numbered_rows_after rows items) host new) routers) es) (sym (routers_after rows items))
      (rows_lead rows.routers (row_items Router router_of items) (hosted_router (numbered_rows rows) host old) (hosted_router (numbered_rows_after rows items) host new) ks es down are
      (untouched_rows rows.routers (row_items Router router_of items) (hosted_router (numbered_rows rows) host old) (hosted_router (numbered_rows_after rows items) host new) ks stay same))

  abbrev pub floating_before : ℕ → Option FloatingRow
  floating_before k = row_at nat_lt k (with_numbers 0 rows.floatings)

  abbrev pub floating_after : ℕ → Option FloatingRow
  floating_after k = row_at nat_lt k (numbered_after rows.floatings (row_items Floating floating_of items))

  abbrev float_by : RowLists → FloatingRow → Option FloatRow
  float_by by f = float_row_by by host f f.target

  -- a floating address's row stays where its router stands here before and after, or not here
  float_same : (f : FloatingRow) → ((t : Target) → f.target ≡ Some t → is_hosted host (router_with rows t.router) ≡ is_hosted host (router_with now t.router)) → float_by rows f ≡ float_by now f
  float_same f hosted = go f.target refl
    where
      go : (o : Option Target) → f.target ≡ o → float_row_by rows host f o ≡ float_row_by now host f o
      go None e = refl
      go (Some t) e = ap (λ (b : Bool). if b then Some (record { id = f.id; router = t.router; floating = f.address; fixed = t.fixed }) else None) (hosted t e)

  pub floats_lead : (ks : List ℕ) (es : List (Edit FloatRow)) → KeysDescend nat_lt ks
      → ((k : ℕ) → among nat_lt k ks ≡ false → floating_before k ≡ floating_after k)
      → ((k : ℕ) (f : FloatingRow) (t : Target) → among nat_lt k ks ≡ false → floating_before k ≡ Some f → f.target ≡ Some t → is_hosted host (router_with rows t.router) ≡ is_hosted host (router_with now t.router))
      → AreEditsAt nat_lt (keyed_floats (numbered_rows rows) host) (λ k. option_and_then (float_by now) (floating_after k)) ks es
      → Rewires nat_lt (keyed_floats (numbered_rows rows) host) (keyed_floats (numbered_rows_after rows items) host) (float_rows rows host) (float_rows now host) es
  unfolding float_rows
  floats_lead ks es down stay hosted are =
      subst (λ (floatings : List FloatingRow). Rewires nat_lt (keyed_floats (numbered_rows rows) host) (keyed_floats (numbered_rows_after rows items) host)
      (filter_map (float_by rows) rows.floatings) (filter_map (float_by now) floatings) es) (sym (floatings_after rows items))
      (rows_lead rows.floatings (row_items Floating floating_of items) (float_by rows) (float_by now) ks es down are
      (untouched_rows rows.floatings (row_items Floating floating_of items) (float_by rows) (float_by now) ks stay
      (λ k f away at. float_same f (λ t target. hosted k f t away at target))))
