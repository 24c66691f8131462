-- The key `drivers`: a list of different names out of `openvswitch` and `l2population`, the
-- mechanism drivers of Neutron's ML2 plug-in. Absent, it has both, in this order.
use Rattle.std.specs.Prelude.{Bool, true, false, ◌&&◌, List, map, codes, nat_le, Option, Some, None, is_some, unwrap_or, option_and_then, count_by, if◌then◌else◌}
use Rattle.std.specs.List.{list_all}
use Rattle.toml.specs.Data.{Data, Members, get_member}
use Rattle.net_settings.specs.declared.settings.Driver.{Driver}
use Rattle.net_settings.specs.declared.settings.Driver.TheVariants.{Openvswitch, L2population}
use Rattle.net_settings.specs.Defaults.{default_drivers}
use Rattle.std.specs.Str.{bytes_eq}
use Rattle.net_addr.specs.Words.{Text}
use Rattle.net_settings.specs.Texts.{texts_of}

-- the driver with this name
abbrev pub driver_named : Text → Option Driver
driver_named name =
    if bytes_eq name (codes "openvswitch") then Some Openvswitch
    else if bytes_eq name (codes "l2population") then Some L2population
    else None

-- the drivers of these names, if all name one
abbrev pub drivers_among : List Text → Option (List Driver)
drivers_among names =
    if list_all (λ n. is_some (driver_named n)) names
    then Some (map (λ n. unwrap_or (driver_named n) Openvswitch) names)
    else None

-- the two are one driver
abbrev pub is_driver : Driver → Driver → Bool
is_driver Openvswitch Openvswitch = true
is_driver L2population L2population = true
is_driver _ _ = false

-- no driver is there twice
abbrev pub is_each_once : List Driver → Bool
is_each_once drivers =
    nat_le (count_by (is_driver Openvswitch) drivers) 1
    && nat_le (count_by (is_driver L2population) drivers) 1

-- the drivers, if none is there twice
abbrev pub if_each_once : List Driver → Option (List Driver)
if_each_once drivers = if is_each_once drivers then Some drivers else None

-- the drivers of a list of names
abbrev pub drivers_of : Data → Option (List Driver)
drivers_of d = option_and_then if_each_once (option_and_then drivers_among (texts_of d))

-- the drivers, or both where the key is absent
abbrev pub drivers_from : Option Data → Option (List Driver)
drivers_from None = Some default_drivers
drivers_from (Some d) = drivers_of d

-- the drivers that the settings have, or none where the key breaks its rule
abbrev pub drivers_in : Members → Option (List Driver)
drivers_in ms = drivers_from (get_member (codes "drivers") ms)
