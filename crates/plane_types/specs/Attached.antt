-- Where tracked entries stand: at the host that has the port or router, and no two translations
-- can be confused.
use Rattle.std.specs.Prelude.{ℕ, ◌≤◌, ◌&&◌, ◌==◌, Bool, false, count_by}
use Rattle.std.specs.List.{list_any}
use Rattle.net_addr.specs.Addresses.{addr_eq}
use Rattle.net_addr.specs.declared.address.Addr.{Addr}
use Rattle.api_types.specs.Ident.{Ident}
use Rattle.api_types.specs.Lists.{Pass}
use Rattle.api_types.specs.Table.{ident_eq}
use Rattle.plane_types.specs.Ends.{destination}
use Rattle.plane_types.specs.Hosts.{Host}
use Rattle.plane_types.specs.Keys.{key_eq, kind_eq}
use Rattle.plane_types.specs.declared.entry.Entry.{Entry}
use Rattle.plane_types.specs.declared.entry.Entry.TheVariants.{Flow, Snat}
use Rattle.plane_types.specs.declared.frame.Key.{Key}
use Rattle.plane_types.specs.declared.frame.KeyKind.{KeyKind}
use Rattle.plane_types.specs.declared.table.RouterTable.{RouterTable}
use Rattle.plane_types.specs.declared.table.TapRow.{TapRow}
use Rattle.plane_types.specs.declared.lists.TableLists.{TableLists}

-- the entry is of a tap or of a router of these tables
abbrev pub is_attached : TableLists → Entry → Bool
is_attached t (Flow port d k) = list_any (λ (r : TapRow). ident_eq port r.port) t.taps
is_attached t (Snat router k o p) =
    list_any (λ (r : RouterTable). ident_eq router r.router) t.routers

-- a translation of this router, of a kind, from this outer address and port to this far end
abbrev pub meets : Ident → KeyKind → ℕ → ℕ → Addr → ℕ → Entry → Bool
meets router kind outer port far far_port (Flow q d k) = false
meets router kind outer port far far_port (Snat r k o p) =
    ident_eq router r && (outer == o)
    && ((p == port) && kind_eq k.kind kind && addr_eq (destination k.ends) far
    && (k.dport == far_port))

-- a translation of this router, of this key, from this outer address
abbrev pub translates : Ident → Key → ℕ → Entry → Bool
translates router key outer (Flow q d k) = false
translates router key outer (Snat r k o p) = ident_eq router r && (outer == o) && key_eq k key

pub record IsAttached (h : Host) : Type 0 where
  pub stand : Pass (is_attached h.tables) h.entries
  pub once_outside : (router : Ident) (kind : KeyKind) (outer port : ℕ) (far : Addr) (far_port : ℕ)
      → count_by (meets router kind outer port far far_port) h.entries ≤ 1
  pub once_inside : (router : Ident) (key : Key) (outer : ℕ)
      → count_by (translates router key outer) h.entries ≤ 1
