use Rattle.std.proofs.Common.{◌≡◌, drop}
use Rattle.std.specs.List.{list_all}
use Rattle.json_values.proofs.list.goes_with.Given as goal

-- the answer is that for the items that are left
abbrev pub invariant-loop-other : goal.invariant-loop-other
invariant-loop-other g l = list_all (g.T.Beside.goes l.item) (drop l.other-index l.others) ≡ list_all (g.T.Beside.goes l.item) l.others
