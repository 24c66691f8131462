use Rattle.std.proofs.Common.{◌≡◌, ◌≤◌, true}
use Rattle.std.specs.Prelude.{sum_by}
use Rattle.std.proofs.lemmas.Result.{IfOk-weaker}
use Rattle.net_addr.specs.declared.address.Addr.{Addr}
use Rattle.api_types.specs.Ident.{Ident}
use Rattle.api_types.specs.Consistent.HeldOnce.{AreHeldOnce, holds_times}
use Rattle.api_consistency.proofs.held.are_held_once.Goals as goal

pub returns : goal.returns
returns c =
    let ports = c.args.known.now.ports in
    IfOk-weaker c.are_addresses_once.result (λ b. b ≡ true → (network : Ident) (x : Addr) → sum_by (holds_times network x) ports ≤ 1) (λ b. b ≡ true → AreHeldOnce ports)
    (λ b once h. record { macs = c.in_ok-are_macs_once.ensures c.if-not-branch.false; addresses = once h }) c.are_addresses_once.ensures
