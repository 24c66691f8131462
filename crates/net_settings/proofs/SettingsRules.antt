-- Settings that were read meet the rules.
use Rattle.std.proofs.Common.{◌≡◌, ℕ, List, map, Option, Some, None, Ok}
use Rattle.toml.specs.Data.{Members, get_member}
use Rattle.std.specs.Prelude.{codes}
use Rattle.net_settings.specs.declared.settings.Driver.{Driver}
use Rattle.net_settings.specs.declared.settings.Quotas.{Quotas}
use Rattle.net_settings.specs.declared.settings.Host.{Host}
use Rattle.net_settings.specs.Document.{at_key}
use Rattle.net_settings.specs.Drivers.{drivers_in}
use Rattle.net_settings.specs.Hosts.{hosts_in}
use Rattle.net_settings.specs.Numbers.{vxlan_first_in, vxlan_last_in}
use Rattle.net_settings.specs.Quotas.{quotas_in}
use Rattle.net_settings.specs.Rules.{MeetsRules}
use Rattle.net_settings.proofs.HostRules.{hosts_are_good}
use Rattle.net_settings.proofs.TextCounts.{apart}
use Rattle.net_settings.proofs.KeyRules.{drivers_once, last_in_range, first_in_order, quotas_in_range}

-- the value that was read at a key
found : {A : Type 0} (key : List ℕ) (o : Option A) (x : A) → at_key key o ≡ Ok x → o ≡ Some x
found key None x e = cc
found key (Some y) x e = cc

pub read_rules : (ms : Members) (drivers : List Driver) (first last : ℕ) (quotas : Quotas) (hosts : List Host)
    → at_key (codes "drivers") (drivers_in ms) ≡ Ok drivers → at_key (codes "vxlan_first") (vxlan_first_in ms) ≡ Ok first
    → at_key (codes "vxlan_last") (vxlan_last_in ms) ≡ Ok last → at_key (codes "quotas") (quotas_in ms) ≡ Ok quotas → hosts_in ms ≡ Ok hosts
    → MeetsRules (record { drivers = drivers; vxlan_first = first; vxlan_last = last; quotas = quotas; hosts = hosts })
read_rules ms drivers first last quotas hosts d f l q h =
    let last_found = found (codes "vxlan_last") (vxlan_last_in ms) last l in
    let order = first_in_order ms first last (found (codes "vxlan_first") (vxlan_first_in ms) first f) last_found in
    let good = hosts_are_good (get_member (codes "hosts") ms) hosts h in
    record {
      drivers_once = drivers_once (get_member (codes "drivers") ms) drivers (found (codes "drivers") (drivers_in ms) drivers d);
      first_positive = order.least;
      in_order = order.in_order;
      last_small = (last_in_range ms last last_found).most;
      quotas_in_range = quotas_in_range (get_member (codes "quotas") ms) quotas (found (codes "quotas") (quotas_in ms) quotas q);
      some_host = good.some;
      few_hosts = good.few;
      host_names = good.names;
      host_names_differ = apart (map (λ h. h.name) hosts) good.differ;
      physical_names = good.physical;
    }
