-- The tables of a host realise the rows: each table is the list that the rows give, for the host's
-- tags. Of the tags the rows say which networks have one and no more, since a network keeps the
-- tag that it was once given.
use Rattle.std.specs.Prelude.{◌≡◌, ℕ, ◌<◌, ◌≤◌, ◌==◌, List, map, count_by}
use Rattle.std.specs.List.{filter}
use Rattle.net_addr.specs.Words.{Text}
use Rattle.api_types.specs.Lists.{Each}
use Rattle.api_types.specs.RowLists.{RowLists}
use Rattle.api_types.specs.declared.network.NetworkRow.{NetworkRow}
use Rattle.api_types.specs.Live.{segment}
use Rattle.api_types.specs.Wires.{wire_of}
use Rattle.plane_types.specs.TableRows.{bridge_rows, filter_rows, float_rows, inward_rows, is_tagged, lease_rows, neighbour_rows, route_rows, router_rows, set_rows, tap_rows}
use Rattle.plane_types.specs.declared.table.TagRow.{TagRow}
use Rattle.plane_types.specs.declared.lists.TableLists.{TableLists}

pub record TagStands (rows : RowLists) (t : TagRow) : Type 0 where
  pub wire : t.wire ≡ wire_of (segment rows t.network)
  pub first : 0 < t.tag
  pub last : t.tag ≤ 4094

-- the tagged networks in order of creation, each with a tag of its own
pub record RealisesTags (rows : RowLists) (host : Text) (tags : List TagRow) : Type 0 where
  pub networks : map (λ (t : TagRow). t.network) tags
      ≡ map (λ (n : NetworkRow). n.id) (filter (is_tagged rows host) rows.networks)
  pub stand : Each (TagStands rows) tags
  pub differ : (tag : ℕ) → count_by (λ (t : TagRow). t.tag == tag) tags ≤ 1

pub record Realises (rows : RowLists) (host : Text) (t : TableLists) : Type 0 where
  pub tags : RealisesTags rows host t.tags
  pub taps : t.taps ≡ tap_rows rows host t.tags
  pub filters : t.filters ≡ filter_rows rows host
  pub sets : t.sets ≡ set_rows rows t.filters
  pub bridge : t.bridge ≡ bridge_rows rows host t.tags
  pub inward : t.inward ≡ inward_rows rows t.tags
  pub neighbours : t.neighbours ≡ neighbour_rows rows host t.tags
  pub routers : t.routers ≡ router_rows rows host t.tags
  pub routes : t.routes ≡ route_rows rows host
  pub floats : t.floats ≡ float_rows rows host
  pub leases : t.leases ≡ lease_rows rows host t.tags
