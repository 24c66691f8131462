use Rattle.std.proofs.Common.{◌≡◌, ◌≤◌, ◌∙◌, ℕ, true, sym}
use Rattle.std.specs.Prelude.{count_by}
use Rattle.std.proofs.lemmas.Result.{IfOk-weaker}
use Rattle.api_types.specs.Ident.{Ident}
use Rattle.api_types.specs.Lists.{if_some}
use Rattle.api_types.specs.Consistent.Floating.{leads_to, stands_for, FloatingsLead}
use Rattle.api_types.specs.declared.floating.FloatingRow.{FloatingRow}
use Rattle.api_types.proofs.NameLemmas.{all-at}
use Rattle.api_consistency.proofs.floating.are_leading.Goals as goal

pub returns : goal.returns
returns c =
    let rows = c.args.known.now in
    IfOk-weaker c.are_targets_once.result (λ b. b ≡ true → (network port : Ident) (x : ℕ) → count_by (stands_for network port x) rows.floatings ≤ 1)
    (λ b. b ≡ true → FloatingsLead rows.ports rows.routers rows.floatings)
    (λ b once h. record {
      once = once h;
      targets = all-at (λ (f : FloatingRow). if_some (leads_to rows.ports rows.routers f) f.target) rows.floatings (sym c.all_lead.ensures ∙ c.if-not-all_lead.false);
    }) c.are_targets_once.ensures
