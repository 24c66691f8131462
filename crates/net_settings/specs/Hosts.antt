-- The key `hosts`: 1 to 64 tables with a `name`, and at will `physical`, `vxlan`, `l3` and `dhcp`.
use Rattle.std.specs.Prelude.{Bool, false, not, ◌&&◌, nat_le, List, [], length, map, codes, Option, Some, None, is_some, unwrap_or, option_and_then, Result, Ok, Err, if◌then◌else◌}
use Rattle.std.specs.List.{list_all}
use Rattle.net_addr.specs.Words.{Text}
use Rattle.toml.specs.Data.{Data, Members, no_members, get_member, as_str, as_bool, as_table}
use Rattle.net_settings.specs.declared.hosts.HostDraft.{HostDraft}
use Rattle.net_settings.specs.declared.hosts.HostKey.{HostKey}
use Rattle.net_settings.specs.declared.hosts.HostKey.TheVariants.{Name, Physical, Vxlan, L3, Dhcp}
use Rattle.net_settings.specs.declared.settings.Host.{Host}
use Rattle.net_settings.specs.Defaults.{default_hosts}
use Rattle.net_settings.specs.Names.{is_name, are_different}
use Rattle.net_settings.specs.Texts.{values_of, texts_of}

-- a name: 1 to 63 characters
abbrev pub name_if_good : Text → Option Text
name_if_good name = if is_name 63 name then Some name else None

-- the name of a host's table
abbrev pub name_in : Members → Option Text
name_in ms = option_and_then name_if_good (option_and_then as_str (get_member (codes "name") ms))

-- physical networks: different names of 1 to 64 characters
abbrev pub physical_if_good : List Text → Option (List Text)
physical_if_good names =
    if list_all (is_name 64) names && are_different names then Some names else None

-- the physical networks, or none where the key is absent
abbrev pub physical_from : Option Data → Option (List Text)
physical_from None = Some []
physical_from (Some d) = option_and_then physical_if_good (texts_of d)

-- the physical networks of a host's table
abbrev pub physical_in : Members → Option (List Text)
physical_in ms = physical_from (get_member (codes "physical") ms)

-- true or false; false where it is absent
abbrev pub flag_from : Option Data → Option Bool
flag_from None = Some false
flag_from (Some d) = as_bool d

-- the truth value at a key of a host's table
abbrev pub flag_in : Text → Members → Option Bool
flag_in key ms = flag_from (get_member key ms)

-- what a table has at each key, or none where the value breaks its rule
abbrev pub draft_of : Members → HostDraft
draft_of ms = record {
  name = name_in ms;
  physical = physical_in ms;
  vxlan = flag_in (codes "vxlan") ms;
  l3 = flag_in (codes "l3") ms;
  dhcp = flag_in (codes "dhcp") ms;
}

-- the drafts of values that are all tables
abbrev pub drafts_among : List Data → Option (List HostDraft)
drafts_among ds =
    if list_all (λ d. is_some (as_table d)) ds
    then Some (map (λ d. draft_of (unwrap_or (as_table d) no_members)) ds)
    else None

-- the drafts of 1 to 64 values
abbrev pub drafts_if_few : List Data → Option (List HostDraft)
drafts_if_few ds = if nat_le 1 (length ds) && nat_le (length ds) 64 then drafts_among ds else None

-- the drafts of a list of 1 to 64 tables
abbrev pub drafts_of : Data → Option (List HostDraft)
drafts_of d = option_and_then drafts_if_few (values_of d)

-- the name of a draft, empty where it has none
abbrev pub draft_name : HostDraft → Text
draft_name h = unwrap_or h.name []

-- the draft keeps the rule of a key
abbrev pub keeps : HostKey → HostDraft → Bool
keeps Name h = is_some h.name
keeps Physical h = is_some h.physical
keeps Vxlan h = is_some h.vxlan
keeps L3 h = is_some h.l3
keeps Dhcp h = is_some h.dhcp

-- the first key at which some host breaks its rule
abbrev pub bad_host_key : List HostDraft → Option Text
bad_host_key hosts =
    if not (list_all (keeps Name) hosts && are_different (map draft_name hosts))
    then Some (codes "hosts.name")
    else if not (list_all (keeps Physical) hosts) then Some (codes "hosts.physical")
    else if not (list_all (keeps Vxlan) hosts) then Some (codes "hosts.vxlan")
    else if not (list_all (keeps L3) hosts) then Some (codes "hosts.l3")
    else if not (list_all (keeps Dhcp) hosts) then Some (codes "hosts.dhcp")
    else None

-- the host of a draft that keeps all rules
abbrev pub host_of : HostDraft → Host
host_of h = record {
  name = unwrap_or h.name [];
  physical = unwrap_or h.physical [];
  vxlan = unwrap_or h.vxlan false;
  l3 = unwrap_or h.l3 false;
  dhcp = unwrap_or h.dhcp false;
}

-- the hosts, unless there is a bad key
abbrev pub hosts_unless : Option Text → List HostDraft → Result (List Host) Text
hosts_unless (Some key) drafts = Err key
hosts_unless None drafts = Ok (map host_of drafts)

-- the hosts of drafts, if there are drafts
abbrev pub hosts_of : Option (List HostDraft) → Result (List Host) Text
hosts_of None = Err (codes "hosts")
hosts_of (Some drafts) = hosts_unless (bad_host_key drafts) drafts

-- the hosts, or the default ones where the key is absent
abbrev pub hosts_from : Option Data → Result (List Host) Text
hosts_from None = Ok default_hosts
hosts_from (Some d) = hosts_of (drafts_of d)

-- the hosts that the settings have, in the file's order, or the first bad key among those of hosts
abbrev pub hosts_in : Members → Result (List Host) Text
hosts_in ms = hosts_from (get_member (codes "hosts") ms)
