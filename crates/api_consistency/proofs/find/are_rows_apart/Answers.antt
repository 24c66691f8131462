use Rattle.std.proofs.Common.{◌≡◌, true}
use Rattle.std.proofs.lemmas.Result.{IfOk-weaker}
use Rattle.api_types.specs.Consistent.Numbered.{AreNumbered}
use Rattle.api_types.specs.Consistent.Disjoint.{AreDisjoint}
use Rattle.api_consistency.specs.Parts.{AreApart}
use Rattle.api_consistency.proofs.find.are_rows_apart.Goals as goal

pub returns : goal.returns
returns c =
    let rows = c.args.known.now in
    let numbered : AreNumbered rows = c.in_ok-are_numbered.ensures c.if-not-branch.false in
    IfOk-weaker c.are_disjoint.result (λ b. b ≡ true → AreNumbered rows → AreDisjoint rows.subnets rows.ports rows.routers) (λ b. b ≡ true → AreApart rows)
    (λ b apart h. record {
      numbered = numbered;
      held = c.in_ok-are_held_once.ensures c.if-not-branch-2.false;
      segments = c.in_ok-are_segments_apart.ensures c.if-not-branch-3.false;
      disjoint = apart h numbered;
    }) c.are_disjoint.ensures
