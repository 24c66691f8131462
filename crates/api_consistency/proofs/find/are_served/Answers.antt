use Rattle.std.proofs.Common.{◌≡◌, true}
use Rattle.std.proofs.lemmas.Result.{IfOk-weaker}
use Rattle.api_types.specs.Consistent.Permitted.{OutsidesAreAllowed}
use Rattle.api_consistency.specs.Parts.{AreServed}
use Rattle.api_consistency.proofs.find.are_served.Goals as goal

pub returns : goal.returns
returns c =
    let rows = c.args.known.now in
    IfOk-weaker c.are_outsides.result (λ b. b ≡ true → OutsidesAreAllowed rows.routers rows.floatings rows.policies) (λ b. b ≡ true → AreServed rows)
    (λ b outsides h. record {
      dhcp = c.in_ok-are_dhcp_ports.ensures c.if-not-branch.false;
      own_ports = c.in_ok-are_own_ports.ensures c.if-not-branch-2.false;
      floatings = c.in_ok-are_leading.ensures c.if-not-branch-3.false;
      groups = c.in_ok-are_groups.ensures c.if-not-branch-4.false;
      outsides = outsides h;
    }) c.are_outsides.ensures
