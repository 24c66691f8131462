use Rattle.std.proofs.Common.{◌≡◌, ◌∙◌, ◌∷◌, [], List, Option, None, Result, Ok, Err, inl, inr, ap, subst, sym}
use Rattle.std.proofs.lemmas.Result.{err_from_is_err_and}
use Rattle.api_types.specs.Refusing.{first_refusal}
use Rattle.api_types.specs.declared.kind.Kind.TheVariants.{Port as PortKind}
use Rattle.api_types.specs.declared.refusal.Refusal.{Refusal}
use Rattle.api_policy.specs.Checks.{IsAnswerOf}
use Rattle.api_policy.specs.Quotas.{over_quota}
use Rattle.call_parts.specs.Answers.{IsRefusalIn, Passes}
use Rattle.plan_ports.specs.Plans.{first_taken, standing_refusal}
use Rattle.plan_ports.proofs.checks.ensure_creatable.Goals as goal

first_in : (r : Option Refusal) (rest : List (Option Refusal)) (e : Refusal) → IsRefusalIn r e → IsRefusalIn (first_refusal (r ∷ rest)) e
first_in r rest e (inl memory) = inl memory
first_in r rest e (inr is) = inr (ap (λ r. first_refusal (r ∷ rest)) is)

second_in : (r s : Option Refusal) (rest : List (Option Refusal)) (e : Refusal) → r ≡ None → IsRefusalIn s e → IsRefusalIn (first_refusal (r ∷ s ∷ rest)) e
second_in r s rest e none (inl memory) = inl memory
second_in r s rest e none (inr is) = inr (λ j. first_refusal (none j ∷ is j ∷ rest))

last_in : (r s q : Option Refusal) (result : Result (Unit {0}) Refusal) → r ≡ None → s ≡ None → IsAnswerOf q result → Passes (first_refusal (r ∷ s ∷ q ∷ [])) result
last_in r s q (Ok u) none free is = λ j. first_refusal (none j ∷ free j ∷ is j ∷ [])
last_in r s q (Err e) none free is = inr (λ j. first_refusal (none j ∷ free j ∷ is j ∷ []))

pub returns-in_err-ensure_permitted : goal.returns-in_err-ensure_permitted
returns-in_err-ensure_permitted c =
    let rows = c.args.asking.now.state.rows in
    let form = c.args.form.now in
    let n = c.args.network.now in
    let owner = c.args.owner.now in
    let e = c.in_err-ensure_permitted.field-0.0 in
    let is = subst (λ (r : Option Refusal). IsRefusalIn r e) (λ j. standing_refusal (c.rows-rows.ensures.rows j) (c.caller-caller.ensures j) form n owner) c.in_err-ensure_permitted.ensures in
    let p = err_from_is_err_and c.from_residual.result c.from_residual.ensures.1 in
    rw (p.1, p.2) (first_in _ (first_taken rows form n.id c.args.supply.now ∷ over_quota c.args.asking.now.settings rows owner PortKind ∷ []) e is)

pub returns-in_err-ensure_values_free : goal.returns-in_err-ensure_values_free
returns-in_err-ensure_values_free c =
    let rows = c.args.asking.now.state.rows in
    let form = c.args.form.now in
    let n = c.args.network.now in
    let owner = c.args.owner.now in
    let e = c.in_err-ensure_values_free.field-0.0 in
    let none = sym (λ j. standing_refusal (c.rows-rows.ensures.rows j) (c.caller-caller.ensures j) form n owner) ∙ c.in_ok-ensure_permitted.ensures in
    let is = subst (λ (r : Option Refusal). IsRefusalIn r e) (λ j. first_taken (c.rows-rows.ensures.rows j) form n.id c.args.supply.now) c.in_err-ensure_values_free.ensures in
    let p = err_from_is_err_and c.from_residual-in_err-ensure_values_free.result c.from_residual-in_err-ensure_values_free.ensures.1 in
    rw (p.1, p.2) (second_in _ _ (over_quota c.args.asking.now.settings rows owner PortKind ∷ []) e none is)

pub returns : goal.returns
returns c =
    let form = c.args.form.now in
    let n = c.args.network.now in
    let owner = c.args.owner.now in
    let none = sym (λ j. standing_refusal (c.rows-rows.ensures.rows j) (c.caller-caller.ensures j) form n owner) ∙ c.in_ok-ensure_permitted.ensures in
    let free = sym (λ j. first_taken (c.rows-rows.ensures.rows j) form n.id c.args.supply.now) ∙ c.in_ok-ensure_values_free.ensures in
    let is = subst (λ (r : Option Refusal). IsAnswerOf r c.over_quota.result) (λ j. over_quota (c.settings.ensures j) (c.rows-rows.ensures.rows j) owner PortKind) c.over_quota.ensures in
    last_in _ _ _ c.over_quota.result none free is
