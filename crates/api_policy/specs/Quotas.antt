-- Quotas: how many rows of a kind a project may have. Rows that come along with others count as
-- used.
use Rattle.api_types.specs.Refusing.{when}
use Rattle.api_types.specs.RowLists.{RowLists}
use Rattle.api_types.specs.Table.{owned_count}
use Rattle.api_types.specs.declared.kind.Kind.TheVariants.{Project, Network, Subnet, Port, Group, Rule, Router, Floating, Policy}
use Rattle.api_types.specs.declared.kind.Kind.{Kind}
use Rattle.api_types.specs.declared.refusal.Refusal.TheVariants.{OverQuota}
use Rattle.api_types.specs.declared.refusal.Refusal.{Refusal}
use Rattle.net_settings.specs.Settings.{SettingsParts}
use Rattle.net_settings.specs.declared.settings.Limit.TheVariants.{AtMost, Unlimited}
use Rattle.net_settings.specs.declared.settings.Limit.{Limit}
use Rattle.net_settings.specs.declared.settings.Quotas.{Quotas}
use Rattle.std.specs.Prelude.{None, Option, nat_lt, ℕ, ◌+◌}
use Rattle.net_addr.specs.Words.{Text}

abbrev pub limit_of : Quotas → Kind → Limit
limit_of quotas Project = Unlimited
limit_of quotas Network = quotas.network
limit_of quotas Subnet = quotas.subnet
limit_of quotas Port = quotas.port
limit_of quotas Group = quotas.security_group
limit_of quotas Rule = quotas.security_group_rule
limit_of quotas Router = quotas.router
limit_of quotas Floating = quotas.floatingip
limit_of quotas Policy = quotas.rbac_policy

abbrev pub used_of : RowLists → Text → Kind → ℕ
used_of rows project Project = 0
used_of rows project Network = owned_count (λ r. r.project) project rows.networks
used_of rows project Subnet = owned_count (λ r. r.project) project rows.subnets
used_of rows project Port = owned_count (λ r. r.project) project rows.ports
used_of rows project Group = owned_count (λ r. r.project) project rows.groups
used_of rows project Rule = owned_count (λ r. r.project) project rows.rules
used_of rows project Router = owned_count (λ r. r.project) project rows.routers
used_of rows project Floating = owned_count (λ r. r.project) project rows.floatings
used_of rows project Policy = owned_count (λ r. r.project) project rows.policies

abbrev pub over_limit : Kind → Limit → ℕ → Option Refusal
over_limit kind Unlimited used = None
over_limit kind (AtMost limit) used = when (nat_lt limit (used + 1)) (OverQuota kind limit used)

-- one row more of the kind would be above the project's limit
abbrev pub over_quota : SettingsParts → RowLists → Text → Kind → Option Refusal
over_quota settings rows project kind =
    over_limit kind (limit_of settings.quotas kind) (used_of rows project kind)
