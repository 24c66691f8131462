use Rattle.std.proofs.Common.{◌≡◌, ◌++◌, map, take}
use Rattle.plane_types.specs.TableRows.{filter_of}
use Rattle.l2_agent.proofs.filters.add_rules.Given as goal

-- the rows of the rules so far are added
abbrev pub invariant-loop-rule : goal.invariant-loop-rule
invariant-loop-rule l = l.filters ≡ l.fn.filters ++ map (filter_of l.port) (map (λ r. r.now) (take l.rule-index l.rules))
