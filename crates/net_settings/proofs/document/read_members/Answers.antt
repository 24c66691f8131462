use Rattle.std.proofs.Common.{codes, ap, sym, ◌∙◌}
use Rattle.toml.specs.View.{table_view}
use Rattle.net_settings.specs.Document.{at_key}
use Rattle.net_settings.proofs.SettingsRules.{read_rules}
use Rattle.net_settings.proofs.document.read_members.Goals as goal

pub of-requires : goal.of-requires
of-requires c =
    read_rules (table_view c.args.table.now) _ _ _ _ _
    (ap (at_key (codes "drivers")) (sym c.in_ok-read_drivers.ensures) ∙ c.in_ok-drivers.ensures.ok)
    (ap (at_key (codes "vxlan_first")) (sym c.read_vxlan_first.ensures) ∙ c.in_ok-vxlan_first.ensures.ok)
    (ap (at_key (codes "vxlan_last")) (sym c.read_vxlan_last.ensures) ∙ c.in_ok-vxlan_last.ensures.ok)
    (ap (at_key (codes "quotas")) (sym c.read_quotas.ensures) ∙ c.in_ok-quotas.ensures.ok) c.in_ok-hosts.ensures.ok
