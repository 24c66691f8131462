use Rattle.std.proofs.Common.{◌≡◌, ◌⊎◌, ℕ, drop, false}
use Rattle.std.specs.Prelude.{◌==◌}
use Rattle.std.specs.List.{list_any}
use Rattle.table_edits.specs.NumbersSeen.{at_after, at_before}
use Rattle.l2_delta.specs.TagsStay.{PortStays}
use Rattle.l2_delta.proofs.retag.Retagging.stay_by_ports.Given as goal

-- at each number but those that are left
abbrev pub invariant-loop-number : goal.invariant-loop-number
invariant-loop-number l =
    (k : ℕ) → list_any (λ m. m == k) (drop l.number-index l.number-items) ≡ false
    → (at_before l.ports k ≡ at_after l.ports k)
    ⊎ PortStays l.self.before.now l.self.after.now l.self.host.now l.self.tags
    (at_before l.ports k) (at_after l.ports k)
