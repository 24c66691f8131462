-- What is said alike by two policies.
use Rattle.std.proofs.Common.{lit<, refl, subst, true, ◌≡◌}
use Rattle.std.specs.Str.{bytes_eq}
use Rattle.api_types.specs.Consistent.Permitted.{same_policy}
use Rattle.api_types.specs.Sharing.{is_action}
use Rattle.api_types.specs.Table.{ident_eq}
use Rattle.api_types.specs.declared.policy.Action.{Action}
use Rattle.api_types.specs.declared.policy.Action.TheVariants.{External, Shared}
use Rattle.api_types.specs.declared.policy.PolicyRow.{PolicyRow}
use Rattle.api_types.proofs.ListLemmas.{and_both, both_and}
use Rattle.api_types.proofs.NameLemmas.{bytes_same, ident_same}

-- what is said alike by two policies

pub same_action : (a b : Action) → is_action a b ≡ true → a ≡ b
same_action Shared Shared h = refl
same_action Shared External h = cc
same_action External Shared h = cc
same_action External External h = refl

pub action_itself : (a : Action) → is_action a a ≡ true
action_itself Shared = refl
action_itself External = refl

-- of two that say the same as a third, one says the same as the other
pub said_alike : (p q l : PolicyRow) → same_policy p l ≡ true → same_policy p q ≡ true → same_policy q l ≡ true
said_alike p q l h g =
    let a = and_both (ident_eq p.object l.object) _ h in
    let b = and_both (is_action p.action l.action) (bytes_eq p.target l.target) a.1 in
    let d = and_both (ident_eq p.object q.object) _ g in
    let e = and_both (is_action p.action q.action) (bytes_eq p.target q.target) d.1 in
    both_and _ _ (subst (λ i. ident_eq i l.object ≡ true) (ident_same p.object q.object d.0) a.0)
    (both_and _ _ (subst (λ x. is_action x l.action ≡ true) (same_action p.action q.action e.0) b.0) (subst (λ t. bytes_eq t l.target ≡ true) (bytes_same p.target q.target e.1) b.1))
