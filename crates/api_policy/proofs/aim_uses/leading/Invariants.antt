use Rattle.std.proofs.Common.{◌≡◌, drop}
use Rattle.std.specs.Prelude.{find}
use Rattle.net_addr.specs.Addresses.{number}
use Rattle.api_types.specs.Consistent.Floating.{stands_for}
use Rattle.api_policy.specs.OtherFloatings.{other_floatings}
use Rattle.api_policy.proofs.aim_uses.leading.Given as goal

-- none so far stands for it
abbrev pub invariant-loop-floating : goal.invariant-loop-floating
invariant-loop-floating l =
    find (stands_for l.network l.port (number l.address)) (other_floatings l.own (drop l.floating-index l.floatings)) ≡ find (stands_for l.network l.port (number l.address)) (other_floatings l.own l.floatings)
