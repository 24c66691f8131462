-- The default settings meet the rules.
use Rattle.std.proofs.Common.{refl, map, lit≤}
use Rattle.net_settings.specs.Defaults.{default_parts}
use Rattle.net_settings.specs.Rules.{MeetsRules}
use Rattle.net_settings.proofs.TextCounts.{apart}

pub default_rules : MeetsRules default_parts
default_rules = record {
  drivers_once = refl;
  first_positive = lit≤ tt;
  in_order = lit≤ tt;
  last_small = lit≤ tt;
  quotas_in_range = refl;
  some_host = lit≤ tt;
  few_hosts = lit≤ tt;
  host_names = refl;
  host_names_differ = apart (map (λ h. h.name) default_parts.hosts) refl;
  physical_names = refl;
}
