use Rattle.std.proofs.Common.{◌≡◌, true, take, map, is_some, unwrap_or}
use Rattle.std.specs.List.{list_all}
use Rattle.net_settings.specs.declared.settings.Driver.TheVariants.{Openvswitch}
use Rattle.net_settings.specs.Drivers.{driver_named}
use Rattle.net_settings.proofs.drivers.drivers_among.Given as goal

abbrev pub invariant-loop-name : goal.invariant-loop-name
invariant-loop-name l = record {
  all : list_all (λ n. is_some (driver_named n)) (take l.name-index l.names) ≡ true;
  drivers : l.drivers ≡ map (λ n. unwrap_or (driver_named n) Openvswitch) (take l.name-index l.names);
}
