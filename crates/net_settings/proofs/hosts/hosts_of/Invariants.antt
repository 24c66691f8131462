use Rattle.std.proofs.Common.{◌≡◌, ◌++◌, map}
use Rattle.std.specs.Vec.Iter.{into_iter_items}
use Rattle.net_settings.specs.Hosts.{host_of}
use Rattle.net_settings.proofs.hosts.hosts_of.Given as goal

-- the hosts so far and those of the drafts that are left are those of the drafts
abbrev pub invariant-loop-draft : goal.invariant-loop-draft
invariant-loop-draft l = l.hosts ++ map host_of (into_iter_items l.draft-iterator) ≡ map host_of l.fn.drafts
