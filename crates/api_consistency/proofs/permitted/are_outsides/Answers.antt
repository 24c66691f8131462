use Rattle.std.proofs.Common.{◌≡◌, ◌≤◌, ◌∙◌, true, sym}
use Rattle.std.specs.Prelude.{count_by}
use Rattle.std.specs.List.{list_all}
use Rattle.std.proofs.lemmas.Result.{IfOk-weaker}
use Rattle.api_types.specs.Sharing.{is_external_to}
use Rattle.api_types.specs.Consistent.Permitted.{same_policy, OutsidesAreAllowed}
use Rattle.api_types.specs.declared.floating.FloatingRow.{FloatingRow}
use Rattle.api_types.specs.declared.policy.PolicyRow.{PolicyRow}
use Rattle.api_types.proofs.ListLemmas.{and_both}
use Rattle.api_types.proofs.NameLemmas.{all-at}
use Rattle.api_clauses.specs.Permits.{router_permitted}
use Rattle.api_consistency.proofs.permitted.are_outsides.Goals as goal

pub returns : goal.returns
returns c =
    let rows = c.args.known.now in
    let both = and_both (list_all (router_permitted rows.policies) rows.routers) (list_all (λ (f : FloatingRow). is_external_to rows.policies f.network f.project) rows.floatings) (sym c.are_permitted.ensures ∙ c.if-not-are_permitted.false) in
    IfOk-weaker c.are_policies_once.result (λ b. b ≡ true → (p : PolicyRow) → count_by (same_policy p) rows.policies ≤ 1)
    (λ b. b ≡ true → OutsidesAreAllowed rows.routers rows.floatings rows.policies)
    (λ b once h. record {
      gateways = all-at (router_permitted rows.policies) rows.routers both.0;
      addresses = all-at (λ (f : FloatingRow). is_external_to rows.policies f.network f.project) rows.floatings both.1;
      once = once h;
    }) c.are_policies_once.ensures
