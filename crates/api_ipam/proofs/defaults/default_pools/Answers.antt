use Rattle.std.proofs.Common.{sym}
use Rattle.api_ipam.proofs.DefaultLemmas.{hosts_behind}
use Rattle.api_ipam.proofs.defaults.default_pools.Goals as goal

pub without-requires : goal.without-requires
without-requires c = hosts_behind c.args.prefix c.in-Some.hosts (sym c.in-Some.ensures.word)
