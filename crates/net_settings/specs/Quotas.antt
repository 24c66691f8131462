-- The key `quotas`: a table of limits by kind of resource, each from -1, which is no limit, to
-- 2147483647 (Neutron's quotas,
-- https://docs.openstack.org/api-ref/network/v2/#quotas-extension-quotas). A kind that isn't there
-- has its default.
use Rattle.std.specs.Prelude.{ℤ, zero, suc, Bool, true, ◌&&◌, nat_le, [], ◌∷◌, codes, pos, negsuc, Option, Some, None, is_some, unwrap_or, option_and_then, if◌then◌else◌}
use Rattle.std.specs.List.{list_any}
use Rattle.toml.specs.Data.{Data, Members, no_members, member, get_member, as_integer, as_table}
use Rattle.net_settings.specs.declared.settings.Limit.{Limit}
use Rattle.net_settings.specs.declared.settings.Limit.TheVariants.{Unlimited, AtMost}
use Rattle.net_settings.specs.declared.settings.Quotas.{Quotas}
use Rattle.net_settings.specs.Defaults.{default_quotas}
use Rattle.std.specs.Str.{bytes_eq}
use Rattle.net_addr.specs.Words.{Text}

-- -1 is no limit
abbrev pub if_limit : ℤ → Option Limit
if_limit (pos n) = if nat_le n 2147483647 then Some (AtMost n) else None
if_limit (negsuc zero) = Some Unlimited
if_limit (negsuc (suc n)) = None

-- the limit that a value is
abbrev pub limit_of : Data → Option Limit
limit_of d = option_and_then if_limit (as_integer d)

-- the kinds of resources
abbrev pub is_quota : Text → Bool
is_quota key =
    list_any (bytes_eq key)
    (codes "network" ∷ codes "subnet" ∷ codes "port" ∷ codes "router" ∷ codes "floatingip"
    ∷ codes "security_group" ∷ codes "security_group_rule" ∷ codes "rbac_policy" ∷ [])

-- each member is a limit at a kind's key
abbrev pub are_quotas : Members → Bool
are_quotas no_members = true
are_quotas (member key d ms) = (is_quota key && is_some (limit_of d)) && are_quotas ms

-- the limit at a key, or its default
abbrev pub limit_at : Text → Limit → Members → Limit
limit_at key default ms = unwrap_or (option_and_then limit_of (get_member key ms)) default

-- the limit of each kind
abbrev pub quotas_among : Members → Quotas
quotas_among ms = record {
  network = limit_at (codes "network") default_quotas.network ms;
  subnet = limit_at (codes "subnet") default_quotas.subnet ms;
  port = limit_at (codes "port") default_quotas.port ms;
  router = limit_at (codes "router") default_quotas.router ms;
  floatingip = limit_at (codes "floatingip") default_quotas.floatingip ms;
  security_group = limit_at (codes "security_group") default_quotas.security_group ms;
  security_group_rule = limit_at (codes "security_group_rule") default_quotas.security_group_rule
      ms;
  rbac_policy = limit_at (codes "rbac_policy") default_quotas.rbac_policy ms;
}

-- the limits of a table
abbrev pub if_quotas : Members → Option Quotas
if_quotas ms = if are_quotas ms then Some (quotas_among ms) else None

-- the limits, or the defaults where the key is absent
abbrev pub quotas_from : Option Data → Option Quotas
quotas_from None = Some default_quotas
quotas_from (Some d) = option_and_then if_quotas (as_table d)

-- the limits that the settings have, or none where the key breaks its rule
abbrev pub quotas_in : Members → Option Quotas
quotas_in ms = quotas_from (get_member (codes "quotas") ms)
