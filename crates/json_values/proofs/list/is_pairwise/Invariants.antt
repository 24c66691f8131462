use Rattle.std.proofs.Common.{◌≡◌, drop}
use Rattle.json_values.specs.Values.{pairwise}
use Rattle.json_values.proofs.list.is_pairwise.Given as goal

-- the answer is that for the items that are left
abbrev pub invariant-loop-at : goal.invariant-loop-at
invariant-loop-at g l = pairwise g.T.Beside.goes (drop l.at l.items) ≡ pairwise g.T.Beside.goes l.items
