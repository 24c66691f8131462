use Rattle.std.proofs.Common.{◌≡◌, drop}
use Rattle.std.specs.List.{list_any}
use Rattle.std.specs.Prelude.{find}
use Rattle.dvr_types.specs.CopySteps.{is_interface_with as with_interface}
use Rattle.dvr_types.specs.declared.copies.RouterCopy.{RouterCopy}
use Rattle.dvr_fabric.proofs.copies.copy_at.Given as goal

-- none so far has the interface
abbrev pub invariant-loop-copy : goal.invariant-loop-copy
invariant-loop-copy l =
    find (λ (r : RouterCopy). list_any (with_interface l.network l.mac) r.ports) (drop l.copy-index l.copy-items)
    ≡ find (λ (r : RouterCopy). list_any (with_interface l.network l.mac) r.ports) l.copies.copies
