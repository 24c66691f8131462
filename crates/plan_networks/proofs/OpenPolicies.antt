-- The policies that `shared` and `router:external` are: one that is made and one that goes keep rows consistent.
use Rattle.std.proofs.Common.{Bool, List, None, Option, Some, [], ap, arith, false, not, refl, slice_get, sym, true, ℕ, ◌∙◌, ◌∷◌, ◌≡◌, suc, zero, ◌++◌}
use Rattle.plan_networks.specs.NetworkCalls.{closing, is_cleared, is_opened, new_open_policy, opening}
use Rattle.api_policy.specs.Uses.{open_policy}
use Rattle.api_policy.specs.Networks.{permits_all}
use Rattle.kept_laws.proofs.PolicyAlike.{action_itself, said_alike, same_action}
use Rattle.kept_laws.proofs.DroppedRows.{agree_filter}
use Rattle.kept_laws.proofs.PolicyPermits.{still_permitted}
use Rattle.kept_laws.proofs.OutcomeLemmas.{found_at, unfound}
use Rattle.api_types.proofs.ListLemmas.{and_both, both_and, any-filter, at-any, count-none, each-push, false_true, one_row, each-filter, none_some, or_none}
use Rattle.api_types.proofs.NameLemmas.{by_test, bytes_itself, bytes_same, first_fails, ident_itself, ident_same, not_false, count-filter, is_some_so-weaker}
use Rattle.row_laws.proofs.PolicyPushed.{policy_pushed}
use Rattle.api_types.proofs.IdLemmas.{fresh-push}
use Rattle.row_laws.proofs.TimesLemmas.{times-policy}
use Rattle.kept_laws.proofs.EditedRows.{filter_has}
use Rattle.row_laws.proofs.PoliciesGone.{policies_gone}
use Rattle.call_parts.specs.Edits.{made}
use Rattle.api_policy.specs.PolicyNeeds.{policy_user, is_forsaken, is_unserved, is_unshared}
use Rattle.api_types.specs.Consistent.{IsConsistent}
use Rattle.api_types.specs.Consistent.Numbered.{is_drawn, times_in}
use Rattle.api_types.specs.Consistent.Permitted.{same_policy}
use Rattle.api_types.specs.Ident.{Ident}
use Rattle.api_types.specs.Lists.{Each, is_empty, is_some_so}
use Rattle.api_types.specs.RowLists.{RowLists}
use Rattle.api_types.specs.Sharing.{everyone, grants, is_action, is_external_to, is_granted, is_shared_with}
use Rattle.api_types.specs.Table.{ident_eq}
use Rattle.api_types.specs.declared.form.Given.{Given}
use Rattle.api_types.specs.declared.form.Given.TheVariants.{Absent, Is, Null}
use Rattle.api_types.specs.declared.network.NetworkRow.{NetworkRow}
use Rattle.api_types.specs.declared.policy.Action.{Action}
use Rattle.api_types.specs.declared.policy.PolicyRow.{PolicyRow}
use Rattle.row_laws.specs.Gone.{with_policies_kept}
use Rattle.row_laws.specs.NewRows.{with_policy}
use Rattle.std.specs.Prelude.{filter, ◌&&◌, ◌||◌}
use Rattle.std.specs.Str.{bytes_eq}
use Rattle.api_policy.specs.Served.{held_port, served}
use Rattle.api_types.specs.declared.policy.Action.TheVariants.{External, Shared}
use Rattle.api_types.specs.declared.port.PortRow.{PortRow}

-- a policy that says the same as one for everyone permits the action to all
permits_as : (network : Ident) (action : Action) (l q : PolicyRow) → permits_all network action l ≡ true → same_policy q l ≡ true → permits_all network action q ≡ true
permits_as network action l q opens same =
    let a = and_both (ident_eq network l.object) (is_action action l.action && bytes_eq l.target everyone) opens in
    let b = and_both (is_action action l.action) (bytes_eq l.target everyone) a.1 in
    let e = and_both (ident_eq q.object l.object) (is_action q.action l.action && bytes_eq q.target l.target) same in
    let f = and_both (is_action q.action l.action) (bytes_eq q.target l.target) e.1 in
    both_and _ _ (ap (ident_eq network) (ident_same q.object l.object e.0) ∙ a.0)
    (both_and _ _ (ap (is_action action) (same_action q.action l.action f.0) ∙ b.0) (ap (λ t. bytes_eq t everyone) (bytes_same q.target l.target f.1) ∙ b.1))

-- two that permit an action to all say the same
says_as : (network : Ident) (action : Action) (l q : PolicyRow) → permits_all network action l ≡ true → permits_all network action q ≡ true → same_policy l q ≡ true
says_as network action l q one other =
    let a = and_both (ident_eq network l.object) (is_action action l.action && bytes_eq l.target everyone) one in
    let b = and_both (is_action action l.action) (bytes_eq l.target everyone) a.1 in
    let e = and_both (ident_eq network q.object) (is_action action q.action && bytes_eq q.target everyone) other in
    let f = and_both (is_action action q.action) (bytes_eq q.target everyone) e.1 in
    both_and _ _ (ap (λ i. ident_eq i q.object) (sym (ident_same network l.object a.0)) ∙ e.0)
    (both_and _ _ (ap (λ x. is_action x q.action) (sym (same_action action l.action b.0)) ∙ f.0)
    (ap (λ t. bytes_eq t q.target) (bytes_same l.target everyone b.1) ∙ (ap (bytes_eq everyone) (bytes_same q.target everyone f.1) ∙ bytes_itself everyone)))

-- which of some policies permits an action on a network to all: the one that was found, or none
abbrev pub IsOpenBy : List PolicyRow → Ident → Action → Option PolicyRow → Type 0
IsOpenBy policies network action None = Each (λ q. permits_all network action q ≡ false) policies
IsOpenBy policies network action (Some l) = Each (λ q. ident_eq l.id q.id ≡ permits_all network action q) policies

pub open_by : (rows : RowLists) → IsConsistent rows → (network : Ident) (action : Action) (o : Option PolicyRow) → open_policy rows.policies network action ≡ o → IsOpenBy rows.policies network action o
open_by rows c network action None h = unfound (permits_all network action) rows.policies h
open_by rows c network action (Some l) h = λ k q at. by_test (ident_eq l.id q.id) (ident_eq l.id q.id ≡ permits_all network action q)
    (λ same.
    let one = one_row (λ (p : PolicyRow). ident_eq l.id p.id) rows.policies (omega (arith, c.numbered.ids l.id)) found.0 k l q found.1 at (ident_itself l.id) same in
    same ∙ sym (ap (permits_all network action) (sym one) ∙ found.2))
    (λ other. by_test (permits_all network action q) (ident_eq l.id q.id ≡ permits_all network action q)
    (λ is.
    let one = one_row (same_policy l) rows.policies (c.outsides.once l) found.0 k l q found.1 at (says_as network action l l found.2 found.2) (says_as network action l q found.2 is) in
    false_true _ (sym other ∙ (ap (λ (p : PolicyRow). ident_eq l.id p.id) (sym one) ∙ ident_itself l.id)))
    (λ isnt. other ∙ sym isnt))
  where
    found : (k : ℕ) × (slice_get rows.policies k ≡ Some l) × (permits_all network action l ≡ true)
    found = found_at (permits_all network action) rows.policies l h

module _ (rows : RowLists) (c : IsConsistent rows) (k : ℕ) (n : NetworkRow) (at : slice_get rows.networks k ≡ Some n) (action : Action) where
  -- one is made where there is none
  pub opened : (i : Ident) → times_in rows i ≡ 0 → is_drawn rows.projects i ≡ true → Each (λ q. permits_all n.id action q ≡ false) rows.policies → IsConsistent (with_policy rows (new_open_policy n action i))
  opened i fresh drawn none =
      let l : PolicyRow = new_open_policy n action i in
      let opens : permits_all n.id action l ≡ true = both_and _ _ (ident_itself n.id) (both_and _ _ (action_itself action) (bytes_itself everyone)) in
      policy_pushed rows l (record {
        fresh = fresh;
        drawn = drawn;
        network = at-any (λ (m : NetworkRow). ident_eq n.id m.id) rows.networks k n at (ident_itself n.id);
        project = c.named.projects.of_networks k n at;
        alone = λ p said. count-none (same_policy p) rows.policies (λ j q at_q. by_test (same_policy p q) (same_policy p q ≡ false)
            (λ alike. false_true _ (sym (none j q at_q) ∙ permits_as n.id action l q opens (said_alike p q l said alike)))
            (λ fails. fails));
      }) c

  -- one goes where no port needs it
  pub closed : policy_user rows (filter (λ q. not (permits_all n.id action q)) rows.policies) n ≡ None → IsConsistent (with_policies_kept (λ q. not (permits_all n.id action q)) rows)
  closed unneeded =
      let stays : PolicyRow → Bool = λ q. not (permits_all n.id action q) in
      policies_gone stays rows (still_permitted rows c (filter stays rows.policies) k n at unneeded
      (λ other network project away. any-filter stays (grants other network project) rows.policies (λ j q at_q goes.
      first_fails (ident_eq network q.object) _
      (ap (ident_eq network) (sym (ident_same n.id q.object (and_both (ident_eq n.id q.object) (is_action action q.action && bytes_eq q.target everyone) (not_false _ goes)).0)) ∙ away)))) c

-- what a body makes of the policies of one action
abbrev pub reopened : NetworkRow → Action → Given Bool → Ident → Option PolicyRow → RowLists → RowLists
reopened n action asked i old rows = made rows (opening n action i (is_opened asked old) ++ closing old (is_cleared asked))

module _ (rows : RowLists) (c : IsConsistent rows) (k : ℕ) (n : NetworkRow) (at : slice_get rows.networks k ≡ Some n) (action : Action) (i : Ident) where
  -- what is asked for, where there is such a policy or none: rows stay consistent, and what comes next finds what it needs
  pub record IsReopened (asked : Given Bool) (old : Option PolicyRow) : Type 1 where
    pub policies : List PolicyRow
    pub is : reopened n action asked i old rows ≡ record rows { policies = policies }
    pub consistent : IsConsistent (record rows { policies = policies })
    -- other ids are new still
    pub fresh : (j : Ident) → times_in rows j ≡ 0 → (is_opened asked old ≡ true → ident_eq j i ≡ false) → times_in (record rows { policies = policies }) j ≡ 0
    -- a policy that isn't cleared stands
    pub holds : (l : ℕ) (q : PolicyRow) → slice_get rows.policies l ≡ Some q → (is_cleared asked ≡ true → permits_all n.id action q ≡ false) → (m : ℕ) × (slice_get policies m ≡ Some q)
    -- what holds of those that stood and of a new one holds of all
    pub each : (P : PolicyRow → Type 0) → Each P rows.policies → (is_opened asked old ≡ true → P (new_open_policy n action i)) → Each P policies

  same_rows : (asked : Given Bool) (old : Option PolicyRow) → reopened n action asked i old rows ≡ rows → IsReopened asked old
  same_rows asked old is = record { policies = rows.policies; is = is; consistent = c; fresh = λ j none differs. none; holds = λ l q at_q left. (l, at_q); each = λ P all new. all }

  at_left : (xs ys : List PolicyRow) (l : ℕ) (q : PolicyRow) → slice_get xs l ≡ Some q → slice_get (xs ++ ys) l ≡ Some q
  at_left [] ys l q h = none_some q _ h
  at_left (x ∷ xs) ys zero q h = h
  at_left (x ∷ xs) ys (suc l) q h = at_left xs ys l q h

  pub reopened_keeps : (asked : Given Bool) (old : Option PolicyRow) → IsOpenBy rows.policies n.id action old
      → (is_opened asked old ≡ true → (times_in rows i ≡ 0) × (is_drawn rows.projects i ≡ true))
      → (is_cleared asked ≡ true → policy_user rows (filter (λ q. not (permits_all n.id action q)) rows.policies) n ≡ None)
      → IsReopened asked old
  reopened_keeps Absent None is_by ids unneeded = same_rows Absent None refl
  reopened_keeps Absent (Some l) is_by ids unneeded = same_rows Absent (Some l) refl
  reopened_keeps Null None is_by ids unneeded = same_rows Null None refl
  reopened_keeps Null (Some l) is_by ids unneeded = same_rows Null (Some l) refl
  reopened_keeps (Is false) None is_by ids unneeded = record {
    policies = rows.policies;
    is = refl;
    consistent = c;
    fresh = λ j none differs. none;
    holds = λ l q at_q left. (l, at_q);
    each = λ P all new. all;
  }
  reopened_keeps (Is false) (Some l) is_by ids unneeded =
      let stays : PolicyRow → Bool = λ q. not (permits_all n.id action q) in
      record {
        policies = filter stays rows.policies;
        is = ap (λ policies. record rows { policies = policies }) (agree_filter (λ q. not (ident_eq l.id q.id)) stays rows.policies (λ j q at_q. ap not (is_by j q at_q)));
        consistent = closed rows c k n at action (unneeded refl);
        fresh = λ j none differs. let fewer = count-filter stays (λ (q : PolicyRow). ident_eq j q.id) rows.policies 0 (omega (arith, none)) in omega (arith, none, fewer);
        holds = λ m q at_q left. filter_has stays rows.policies m q at_q (ap not (left refl));
        each = λ P all new. each-filter stays P P rows.policies (λ q kept h. h) all;
      }
  reopened_keeps (Is true) None is_by ids unneeded =
      let of_ids = ids refl in
      let new : PolicyRow = new_open_policy n action i in
      record {
        policies = rows.policies ++ new ∷ [];
        is = refl;
        consistent = opened rows c k n at action i of_ids.0 of_ids.1 is_by;
        fresh = λ j none differs. fresh-push rows (with_policy rows new) i j (λ m. times-policy rows m new) (differs refl) none;
        holds = λ l q at_q left. (l, at_left rows.policies (new ∷ []) l q at_q);
        each = λ P all of_new. each-push P rows.policies new all (of_new refl);
      }
  reopened_keeps (Is true) (Some l) is_by ids unneeded = same_rows (Is true) (Some l) refl

-- where more is granted, no more ports miss something
pub more_granted : (rows : RowLists) (n : NetworkRow) (fewer more : List PolicyRow) → ((action : Action) (project : List ℕ) → is_granted fewer action n.id project ≡ true → is_granted more action n.id project ≡ true)
    → policy_user rows fewer n ≡ None → policy_user rows more n ≡ None
more_granted rows n fewer more grow none = by (policy_user rows more n) refl
  where
    turned : (a b : Bool) → (a ≡ true → b ≡ true) → not b ≡ true → not a ≡ true
    turned true b f h = false_true _ (ap not (sym (f refl)) ∙ h)
    turned false b f h = refl

    by : (o : Option PortRow) → policy_user rows more n ≡ o → o ≡ None
    by None e = refl
    by (Some p) e =
        let found = found_at (is_forsaken rows more n) rows.ports p e in
        let both = and_both (ident_eq n.id p.network) (is_unshared more n (held_port rows p) || is_unserved more n (held_port rows p)) found.2 in
        let other = or_none (is_unshared fewer n (held_port rows p)) (is_unserved fewer n (held_port rows p))
        (sym (ap (λ b. b && (is_unshared fewer n (held_port rows p) || is_unserved fewer n (held_port rows p))) both.0) ∙ unfound (is_forsaken rows fewer n) rows.ports none found.0 p found.1) in
        by_test (is_unshared more n (held_port rows p)) (Some p ≡ None)
        (λ unshared.
        let plain : Bool = not p.by_admin && not (is_empty p.project) && not (bytes_eq p.project n.project) in
        let parts = and_both plain (not (is_shared_with more n.id p.project)) unshared in
        false_true _ (sym other.0 ∙ both_and plain (not (is_shared_with fewer n.id p.project)) parts.0 (turned (is_shared_with fewer n.id p.project) (is_shared_with more n.id p.project) (grow Shared p.project) parts.1)))
        (λ shared.
        let parts = and_both (is_empty p.project) (is_some_so (λ project. not (is_external_to more n.id project)) (served rows p))
        (sym (ap (λ b. b || is_unserved more n (held_port rows p)) shared) ∙ both.1) in
        false_true _ (sym other.1 ∙ both_and (is_empty p.project) (is_some_so (λ project. not (is_external_to fewer n.id project)) (served rows p)) parts.0
        (is_some_so-weaker (λ project. not (is_external_to more n.id project)) (λ project. not (is_external_to fewer n.id project)) (served rows p)
        (λ project. turned (is_external_to fewer n.id project) (is_external_to more n.id project) (grow External project)) parts.1)))
