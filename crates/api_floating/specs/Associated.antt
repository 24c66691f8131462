-- To what a floating address leads where it is to lead to a port, and why it can't.
use Rattle.api_policy.specs.OtherFloatings.{other_floatings}
use Rattle.api_policy.specs.Uses.{already_leads}
use Rattle.api_types.specs.Association.{Aim, aim_at, router_for, target_by}
use Rattle.api_types.specs.Ident.{Ident}
use Rattle.api_types.specs.Owners.{is_service}
use Rattle.api_types.specs.RowLists.{RowLists}
use Rattle.api_types.specs.Table.{row_of}
use Rattle.api_types.specs.declared.floating.FloatingRow.{FloatingRow}
use Rattle.api_types.specs.declared.floating.Target.{Target}
use Rattle.api_types.specs.declared.port.PortRow.{PortRow}
use Rattle.api_types.specs.declared.router.RouterRow.{RouterRow}
use Rattle.api_floating.specs.declared.association.FloatingRefusal.TheVariants.{BadFixed, BadPort, FixedTaken, NoRouterForFloating}
use Rattle.api_floating.specs.declared.association.FloatingRefusal.{FloatingRefusal}
use Rattle.std.specs.Prelude.{Err, None, Ok, Option, Result, Some, bytes_eq, if◌then◌else◌, not, ℕ, ◌||◌}
use Rattle.net_addr.specs.Words.{Text}

-- by a router that joins the subnet of the address to the network
abbrev pub led_by : Aim → Option RouterRow → Result Target FloatingRefusal
led_by aim None = Err (NoRouterForFloating aim.fixed.subnet)
led_by aim (Some r) = Ok (target_by aim r)

-- unless this floating address leads there already
abbrev pub led_alone : RowLists → Ident → Text → Aim → Option FloatingRow
    → Result Target FloatingRefusal
led_alone rows network project aim (Some f) = Err (FixedTaken f.id)
led_alone rows network project aim None =
    led_by aim (router_for rows project network aim.fixed.subnet)

-- the floating address that is changed isn't counted
abbrev pub led_from : RowLists → Ident → Text → Option Ident → Aim → Result Target FloatingRefusal
led_from rows network project own aim =
    led_alone rows network project aim
    (already_leads (other_floatings own rows.floatings) network aim)

abbrev pub led_if : RowLists → Ident → Text → Option Ident → Option Aim
    → Result Target FloatingRefusal
led_if rows network project own None = Err BadFixed
led_if rows network project own (Some aim) = led_from rows network project own aim

abbrev pub associated_at : RowLists → Ident → Text → Option Ident → Option ℕ → PortRow
    → Result Target FloatingRefusal
associated_at rows network project own fixed p =
    if not (bytes_eq p.project project) || is_service p.owner then Err BadPort
    else led_if rows network project own (aim_at fixed p)

abbrev pub associated_if : RowLists → Ident → Text → Option Ident → Option ℕ → Option PortRow
    → Result Target FloatingRefusal
associated_if rows network project own fixed None = Err BadPort
associated_if rows network project own fixed (Some p) =
    associated_at rows network project own fixed p

abbrev pub associated : RowLists → Ident → Text → Option Ident → Ident → Option ℕ
    → Result Target FloatingRefusal
associated rows network project own port fixed =
    associated_if rows network project own fixed (row_of (λ (p : PortRow). p.id) port rows.ports)
