use Rattle.std.proofs.Common.{drop, length, take, ◌++◌, ◌≡◌}
use Rattle.dvr_run.specs.Hosts.{items_of, kept_from}
use Rattle.dvr_run.proofs.keeping.keep_all.Given as goal

-- the hosts so far have what they made, and with those that are left it is all
abbrev pub invariant-loop-place : goal.invariant-loop-place
invariant-loop-place l =
    (length l.entries ≡ length l.fn.entries)
    × (items_of (take l.place l.entries) ++ kept_from l.place (items_of (drop l.place l.entries)) l.fresh ≡ kept_from 0 (items_of l.fn.entries) l.fresh)
