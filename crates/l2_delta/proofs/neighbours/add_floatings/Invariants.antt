use Rattle.std.proofs.Common.{◌≡◌, ◌++◌, drop, map}
use Rattle.std.specs.List.{filter_map}
use Rattle.plane_types.specs.TableRows.{floating_neighbour}
use Rattle.l2_delta.proofs.neighbours.add_floatings.Given as goal

-- the entries so far, and those of the floating addresses that are left, are all
abbrev pub invariant-loop-floating : goal.invariant-loop-floating
invariant-loop-floating l =
    l.neighbours.items ++ filter_map (floating_neighbour l.rows l.host l.tags) (map (λ f. f.now) (drop l.floating-index l.floatings))
    ≡ l.fn.neighbours.items ++ filter_map (floating_neighbour l.rows l.host l.tags) (map (λ f. f.now) l.floatings)
