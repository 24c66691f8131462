-- To which address of which port a floating address leads, and by which router.
use Rattle.api_types.specs.Refusing.{needing}
use Rattle.api_types.specs.Consistent.Floating.{has_interface}
use Rattle.api_types.specs.Ident.{Ident}
use Rattle.api_types.specs.Lists.{is_some_so}
use Rattle.api_types.specs.Outcome.{Outcome}
use Rattle.api_types.specs.RowLists.{RowLists}
use Rattle.api_types.specs.Table.{ident_eq}
use Rattle.api_types.specs.declared.floating.Target.{Target}
use Rattle.api_types.specs.declared.port.Fixed.{Fixed}
use Rattle.api_types.specs.declared.port.PortRow.{PortRow}
use Rattle.api_types.specs.declared.refusal.Refusal.TheVariants.{NoGateway}
use Rattle.api_types.specs.declared.router.Gateway.{Gateway}
use Rattle.api_types.specs.declared.router.RouterRow.{RouterRow}
use Rattle.net_addr.specs.Addresses.{is_four, is_v4, number}
use Rattle.std.specs.Prelude.{Bool, List, None, Option, Some, [], bytes_eq, filter, find, option_map, ℕ, ◌&&◌, ◌∷◌}
use Rattle.net_addr.specs.Words.{Text}

-- a port and one of its addresses of version 4
pub record Aim : Type 0 where
  pub port : PortRow
  pub fixed : Fixed

-- of the addresses of version 4 the one that is named, or the only one
abbrev pub only_one : List Fixed → Option Fixed
only_one [] = None
only_one (f ∷ []) = Some f
only_one (f ∷ g ∷ held) = None

abbrev pub fixed_for : Option ℕ → List Fixed → Option Fixed
fixed_for (Some x) held = find (λ (f : Fixed). is_four f.address x) held
fixed_for None held = only_one (filter (λ (f : Fixed). is_v4 f.address) held)

abbrev pub aim_at : Option ℕ → PortRow → Option Aim
aim_at address p = option_map (λ f. record { port = p; fixed = f }) (fixed_for address p.fixed)

-- the first router of the project with an interface on the subnet and its gateway on the network
abbrev pub joins_to : RowLists → Text → Ident → Ident → RouterRow → Bool
joins_to rows project network subnet r =
    bytes_eq r.project project
    && is_some_so (λ (g : Gateway). ident_eq network g.network) r.gateway
    && has_interface rows.ports r.id subnet

abbrev pub router_for : RowLists → Text → Ident → Ident → Option RouterRow
router_for rows project network subnet = find (joins_to rows project network subnet) rows.routers

abbrev pub target_by : Aim → RouterRow → Target
target_by aim r = record { port = aim.port.id; fixed = number aim.fixed.address; router = r.id }

-- goes on with the target, where there is an aim, and is refused where no router joins its subnet
-- to the network
abbrev pub with_target : RowLists → Text → Ident → Option Aim → (Option Target → Outcome) → Outcome
with_target rows project network None rest = rest None
with_target rows project network (Some aim) rest =
    needing (NoGateway network aim.fixed.subnet) (router_for rows project network aim.fixed.subnet)
    (λ r. rest (Some (target_by aim r)))
