use Rattle.net_settings.proofs.DefaultRules.{default_rules}
use Rattle.net_settings.proofs.EmptyFile.{empty_file}
use Rattle.net_settings.proofs.defaults.default_settings.Goals as goal

pub of-requires : goal.of-requires
of-requires c = rw (c.in_ok-drivers.ensures, c.in_ok-hosts.ensures, c.default_quotas.ensures) default_rules

pub returns-clause-empty_file : goal.returns-clause-empty_file
returns-clause-empty_file c = rw (c.of.ensures, c.in_ok-drivers.ensures, c.in_ok-hosts.ensures, c.default_quotas.ensures) empty_file
