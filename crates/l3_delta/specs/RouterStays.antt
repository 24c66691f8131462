-- A router's ports, its gateway port and what their subnets say are as before a change, so its row
-- and its routes come out as before.
use Rattle.std.specs.Prelude.{◌≡◌, ◌||◌, ℕ, Bool, false, List, Some, nat_lt, slice_get}
use Rattle.std.specs.List.{filter}
use Rattle.net_addr.specs.Words.{Text}
use Rattle.api_types.specs.Holders.{gateway_port}
use Rattle.api_types.specs.Lists.{Each}
use Rattle.api_types.specs.Live.{is_live}
use Rattle.api_types.specs.RouterRows.{is_leg_of, legs_of}
use Rattle.api_types.specs.RowLists.{RowLists}
use Rattle.api_types.specs.RowsWith.{subnet_with}
use Rattle.api_types.specs.declared.port.Fixed.{Fixed}
use Rattle.api_types.specs.declared.port.PortRow.{PortRow}
use Rattle.api_types.specs.declared.router.RouterRow.{RouterRow}
use Rattle.plane_types.specs.Numbered.{numbered_after, with_numbers}
use Rattle.plane_types.specs.TableRows.{is_hosted, tag_of}
use Rattle.plane_types.specs.declared.table.TagRow.{TagRow}
use Rattle.table_edits.specs.EditsAt.{among}
use Rattle.table_edits.specs.NumbersSeen.{Renumbered, at_after, at_before}
use Rattle.table_edits.specs.Untouched.{SubnetStays}

-- the live ports of a router, with their numbers
abbrev pub numbered_legs : RowLists → RouterRow → List (ℕ × PortRow) → List (ℕ × PortRow)
numbered_legs rows r ports = filter (λ (x : ℕ × PortRow). is_leg_of rows r x.1) ports

pub record RouterStays (before after : RowLists) (ports : Renumbered PortRow)
    (old new : List TagRow) (r : RouterRow) : Type 0 where
  pub legs : numbered_legs before r (with_numbers 0 ports.rows)
      ≡ numbered_legs after r (numbered_after ports.rows ports.items)
  pub tags : Each (λ (p : PortRow). tag_of old p.network ≡ tag_of new p.network) (legs_of before r)
  pub subnets : Each
      (λ (p : PortRow). Each
      (λ (f : Fixed). SubnetStays (subnet_with before f.subnet) (subnet_with after f.subnet))
      p.fixed)
      (legs_of before r)
  pub gateway : gateway_port before r ≡ gateway_port after r
  pub gateway_live : (p : PortRow) → gateway_port before r ≡ Some p
      → is_live before p ≡ is_live after p

-- at all numbers but these a router is as before, and stays so
abbrev pub RoutersStay : RowLists → RowLists → Renumbered PortRow → List TagRow → List TagRow
    → Renumbered RouterRow → List ℕ → Type 0
RoutersStay before after ports old new routers touched =
    (k : ℕ) (r : RouterRow) → among nat_lt k touched ≡ false → at_before routers k ≡ Some r
    → RouterStays before after ports old new r

-- whether the router with a number stands on the host before a change or after it
abbrev pub is_hosted_at : Text → Renumbered RouterRow → ℕ → Bool
is_hosted_at host routers k =
    is_hosted host (slice_get routers.rows k) || is_hosted host (at_after routers k)
