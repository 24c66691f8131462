use Rattle.std.proofs.Common.{◌≡◌, drop}
use Rattle.std.specs.List.{list_any}
use Rattle.l3_delta.specs.RouterStays.{is_hosted_at}
use Rattle.l3_delta.proofs.touched.is_any_here.Given as goal

-- none of those so far is here
abbrev pub invariant-loop-number : goal.invariant-loop-number
invariant-loop-number l =
    list_any (is_hosted_at l.host l.routers) (drop l.number-index l.touched)
    ≡ list_any (is_hosted_at l.host l.routers) l.touched
