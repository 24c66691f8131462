-- A borrowed host, and what is sought among hosts.
use Rattle.dvr_fabric.specs.declared.find.Sought.{Sought}
use Rattle.dvr_fabric.specs.declared.find.Sought.TheVariants.{Named, Taker, WithTap}
use Rattle.dvr_fabric.specs.declared.fleet.HostAt.{HostAt}
use Rattle.dvr_types.specs.DvrFabric.{DvrHost, is_dvr_named}
use Rattle.net_addr.specs.Words.{Text}
use Rattle.plane_types.specs.Fabric.{takes}
use Rattle.plane_types.specs.TableStep.{tap_at}
use Rattle.std.specs.Prelude.{Bool, List, None, Option, Some, find, is_some, length, not, option_copied, slice_get, true, ℕ, ◌&&◌, ◌<◌, ◌≡◌}
use Rattle.std.specs.Str.{bytes_eq}

abbrev pub view_of_host : HostAt → DvrHost
view_of_host h = record {
  host = record { name = h.name.now; tables = h.tables.now.lists; entries = h.entries.now.items };
  copies = h.copies.now;
}

-- it is the host at its place
abbrev pub IsHostOf : List DvrHost → HostAt → Type 0
IsHostOf hosts h = (h.at < length hosts) × (slice_get hosts h.at ≡ Some (view_of_host h))

-- any host, or one with another name
abbrev pub is_other_than : Option Text → DvrHost → Bool
is_other_than None d = true
is_other_than (Some name) d = not (bytes_eq d.host.name name)

abbrev pub is_sought_in : Sought → DvrHost → Bool
is_sought_in (Named name) d = is_dvr_named name.now d
is_sought_in (WithTap port) d = is_some (tap_at d.host.tables port)
is_sought_in (Taker but physical tag frame) d =
    is_other_than (option_copied but) d
    && takes (record { physical = physical.now; tag = tag }) frame d.host

-- the place of the first host that passes a test
abbrev pub IsFirst : (DvrHost → Bool) → List DvrHost → Option ℕ → Type 0
IsFirst test hosts None = find test hosts ≡ None
IsFirst test hosts (Some at) = (at < length hosts) × (slice_get hosts at ≡ find test hosts)
