-- Of a list of refusals in order, the first part goes before the second.
use Rattle.std.proofs.Common.{◌≡◌, ◌∙◌, ℕ, List, [], ◌∷◌, Option, Some, None, Result, ap, refl, inl, inr, subst, sym}
use Rattle.std.specs.Option.{option_or}
use Rattle.api_types.specs.Refusing.{first_refusal}
use Rattle.api_types.specs.RowLists.{RowLists}
use Rattle.api_types.specs.declared.call.Caller.{Caller}
use Rattle.api_types.specs.declared.form.NetworkForm.{NetworkForm}
use Rattle.api_types.specs.declared.refusal.Refusal.{Refusal}
use Rattle.net_settings.specs.Settings.{SettingsParts}
use Rattle.plan_networks.specs.NetworkCalls.{creation_refusal}
use Rattle.call_parts.specs.Answers.{IsRefusalIn, Passes}
use Rattle.plan_networks.specs.Plans.{body_refusal, body_refusals, rows_refusal, rows_refusals}
use Rattle.call_parts.proofs.RefusalLemmas.{first_joined}

module _ (settings : SettingsParts) (rows : RowLists) (caller : Caller) (form : NetworkForm) (owner : List ℕ) where
  creation_by_parts : creation_refusal settings rows caller form owner ≡ option_or (body_refusal settings caller form) (rows_refusal settings rows form owner)
  creation_by_parts = first_joined (body_refusals settings caller form) (rows_refusals settings rows form owner)

  pub body_first : (e : Refusal) → IsRefusalIn (body_refusal settings caller form) e → IsRefusalIn (creation_refusal settings rows caller form owner) e
  body_first e (inl memory) = inl memory
  body_first e (inr is) = inr (creation_by_parts ∙ ap (λ o. option_or o (rows_refusal settings rows form owner)) is)

  pub rows_then : (e : Refusal) → body_refusal settings caller form ≡ None → IsRefusalIn (rows_refusal settings rows form owner) e → IsRefusalIn (creation_refusal settings rows caller form owner) e
  rows_then e none (inl memory) = inl memory
  rows_then e none (inr is) = inr (creation_by_parts ∙ ap (λ o. option_or o (rows_refusal settings rows form owner)) none ∙ is)

  pub none_then : body_refusal settings caller form ≡ None → rows_refusal settings rows form owner ≡ None → creation_refusal settings rows caller form owner ≡ None
  none_then none is = creation_by_parts ∙ ap (λ o. option_or o (rows_refusal settings rows form owner)) none ∙ is

lone : (o : Option Refusal) → first_refusal (o ∷ []) ≡ o
lone None = refl
lone (Some r) = refl

-- a check behind two that pass
pub third_passes : (a b o : Option Refusal) (r : Result (Unit {0}) Refusal) → a ≡ None → b ≡ None → Passes o r → Passes (first_refusal (a ∷ b ∷ o ∷ [])) r
third_passes None None o r first second h = subst (λ x. Passes x r) (sym (lone o)) h
third_passes None (Some y) o r first second h = absurd (cc)
third_passes (Some x) b o r first second h = absurd (cc)
