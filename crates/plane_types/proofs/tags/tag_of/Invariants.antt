use Rattle.std.proofs.Common.{◌≡◌, drop}
use Rattle.plane_types.specs.TableRows.{tag_of as tag_given}
use Rattle.plane_types.proofs.tags.tag_of.Given as goal

-- none so far is of the network
abbrev pub invariant-loop-row : goal.invariant-loop-row
invariant-loop-row l =
    tag_given (drop l.row-index l.tags) l.network ≡ tag_given l.tags l.network
