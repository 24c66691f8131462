-- Where calls on floating addresses lead whose parts are known.
use Rattle.std.proofs.Common.{◌≡◌, ◌∙◌, ℕ, List, [], ◌∷◌, Option, Some, None, ap, inl, inr, refl, sym}
use Rattle.std.specs.Prelude.{◌⊎◌, ◌==◌, ◌^◌, ◌-◌, is_none, option_map}
use Rattle.net_addr.specs.Addresses.{number}
use Rattle.net_settings.specs.Settings.{SettingsParts}
use Rattle.api_ipam.specs.MacChoice.{free_mac}
use Rattle.api_policy.specs.OtherFloatings.{other_floatings}
use Rattle.api_policy.specs.Quotas.{over_quota}
use Rattle.api_policy.specs.Seen.{floating_seen}
use Rattle.api_types.specs.Association.{Aim, router_for, target_by, with_target}
use Rattle.api_types.specs.Given.{value_of}
use Rattle.api_types.specs.Ident.{Ident}
use Rattle.api_types.specs.Outcome.{Moved, Outcome, Refused}
use Rattle.api_types.specs.Printed.{NewRow, NoRow, OneRow}
use Rattle.api_types.specs.Refusing.{first_refusal, needing, not_found, unless, when}
use Rattle.api_types.specs.Registration.{Drawing, drawn_id}
use Rattle.api_types.specs.RowLists.{RowLists}
use Rattle.api_types.specs.declared.call.Caller.{Caller}
use Rattle.api_types.specs.declared.call.IdText.{IdText}
use Rattle.api_types.specs.declared.floating.FloatingRow.{FloatingRow}
use Rattle.api_types.specs.declared.floating.Target.{Target}
use Rattle.api_types.specs.declared.form.FloatingForm.{FloatingForm}
use Rattle.api_types.specs.declared.kind.Kind.TheVariants.{Floating as FloatingKind, Network as NetworkKind, Port as PortKind}
use Rattle.api_types.specs.declared.kind.Row.TheVariants.{Floating, Port}
use Rattle.api_types.specs.declared.network.NetworkRow.{NetworkRow}
use Rattle.api_types.specs.declared.port.Fixed.{Fixed}
use Rattle.api_types.specs.declared.refusal.Refusal.TheVariants.{CountersSpent, NoGateway, OutOfMemory as MemoryRefusal, PoolsSpent}
use Rattle.api_types.specs.declared.refusal.Refusal.{Refusal}
use Rattle.api_types.specs.declared.router.RouterRow.{RouterRow}
use Rattle.call_parts.specs.Answers.{IsOrMemory, IsRefusalIn, IsRefusalOf}
use Rattle.call_parts.specs.BodyNames.{text_of}
use Rattle.call_parts.specs.Edits.{Add, Drop, Put, accepted, made}
use Rattle.api_types.specs.WithRows.{with_put}
use Rattle.call_parts.specs.State.{State, drawing_at, is_last}
use Rattle.plan_floatings.specs.FloatingCalls.{aim_asked, body_refusal, changed_floating, creation_refusal, deletion_refusal, floating_added, floating_changed, floating_deleted, floating_made, floating_replaced, floating_shown, floating_updated, floating_with, new_floating, outer_address, own_port, update_refusal}
use Rattle.plan_floatings.specs.Plans.{floating_led, floating_on, lacking_refusal, outer_refusal, target_of, unjoined}

-- beside a new floating address all are others
pub all_others : (floatings : List FloatingRow) → other_floatings None floatings ≡ floatings
all_others [] = refl
all_others (f ∷ floatings) = ap (λ fs. f ∷ fs) (all_others floatings)

-- what goes on with a target is refused where no router joins, and else goes on with what it finds
pub with_target_is : (rows : RowLists) (project : List ℕ) (network : Ident) (aim : Option Aim) (rest : Option Target → Outcome)
    → with_target rows project network aim rest ≡ unless (unjoined rows project network aim) (rest (target_of rows project network aim))
with_target_is rows project network None rest = refl
with_target_is rows project network (Some aim) rest = by (router_for rows project network aim.fixed.subnet)
  where
    by : (o : Option RouterRow) → needing (NoGateway network aim.fixed.subnet) o (λ r. rest (Some (target_by aim r)))
        ≡ unless (when (is_none o) (NoGateway network aim.fixed.subnet)) (rest (option_map (target_by aim) o))
    by None = refl
    by (Some r) = refl

-- what a new floating address takes on its network, and then ids
abbrev held : Ident → Option Fixed → Option ℕ → Option Drawing → (Fixed → ℕ → Drawing → Outcome) → Outcome
held network outer mac drawing rest = needing (PoolsSpent network) outer (λ o. needing CountersSpent mac (λ m. needing CountersSpent drawing (rest o m)))

unheld : (network : Ident) (outer : Option Fixed) (mac : Option ℕ) (drawing : Option Drawing) (rest : Fixed → ℕ → Drawing → Outcome) (e : Refusal)
    → first_refusal (when (is_none outer) (PoolsSpent network) ∷ when (is_none mac) CountersSpent ∷ []) ≡ Some e → held network outer mac drawing rest ≡ Refused e
unheld network None mac drawing rest e h = cc
unheld network (Some o) None drawing rest e h = cc
unheld network (Some o) (Some m) drawing rest e h = cc

all_there : (network : Ident) (outer : Option Fixed) (mac : Option ℕ) (drawing drew : Option Drawing) (rest : Fixed → ℕ → Drawing → Outcome) (o : Fixed) (m : ℕ)
    → outer ≡ Some o → mac ≡ Some m → drawing ≡ drew → held network outer mac drawing rest ≡ needing CountersSpent drew (rest o m)
all_there network outer mac drawing drew rest o m is_o is_m is_d = λ j. held network (is_o j) (is_m j) (is_d j) rest

module _ (settings : SettingsParts) (state : State) (caller : Caller) (form : FloatingForm) (owner : List ℕ) (n : NetworkRow) where
  abbrev aim : Option Aim
  aim = aim_asked state.rows caller form

  abbrev refusal : Option Refusal
  refusal = unjoined state.rows owner n.id aim

  abbrev goal : Option Target
  goal = target_of state.rows owner n.id aim

  abbrev outer : Option Fixed
  outer = outer_address state.rows n.id (value_of form.floating_ip_address)

  abbrev mac : Option ℕ
  mac = free_mac state.rows.ports n.id

  abbrev drawing : Option Drawing
  drawing = drawing_at state owner 2

  abbrev row_by : Option Target → Fixed → Drawing → FloatingRow
  row_by t o d = new_floating form owner n (drawn_id d 0) (drawn_id d 1) (number o.address) t

  abbrev added_by : FloatingRow → Fixed → ℕ → Drawing → Outcome
  added_by f o m d = floating_added caller d.rows f (own_port settings n f m o)

  abbrev rest : Option Target → Fixed → ℕ → Drawing → Outcome
  rest t o m d = added_by (row_by t o d) o m d

  abbrev by_quota : Option Target → Option Refusal → Outcome
  by_quota t q = unless q (held n.id outer mac drawing (rest t))

  abbrev by_router : Option Refusal → Outcome
  by_router o = unless o (floating_with settings state caller form owner n goal)

  led_is : floating_led settings state caller form owner n ≡ by_router refusal
  led_is = with_target_is state.rows owner n.id aim (floating_with settings state caller form owner n)

  pub led_unjoined : (e : Refusal) → refusal ≡ Some e → IsRefusalOf (floating_led settings state caller form owner n) e
  led_unjoined e is = inr (led_is ∙ ap by_router is)

  module _ (joined : refusal ≡ None) where
    led_joined : floating_led settings state caller form owner n ≡ by_quota goal (over_quota settings state.rows owner FloatingKind)
    led_joined = led_is ∙ ap by_router joined

    pub led_over : (e : Refusal) → over_quota settings state.rows owner FloatingKind ≡ Some e → IsRefusalOf (floating_led settings state caller form owner n) e
    led_over e is = inr (led_joined ∙ ap (by_quota goal) is)

    module _ (passed : over_quota settings state.rows owner FloatingKind ≡ None) where
      led_passed : floating_led settings state caller form owner n ≡ held n.id outer mac drawing (rest goal)
      led_passed = led_joined ∙ ap (by_quota goal) passed

      pub led_unheld : (e : Refusal) → IsRefusalIn (outer_refusal state.rows n.id (value_of form.floating_ip_address)) e → IsRefusalOf (floating_led settings state caller form owner n) e
      led_unheld e (inl memory) = inl memory
      led_unheld e (inr is) = inr (led_passed ∙ unheld n.id outer mac drawing (rest goal) e is)

      module _ (o : Fixed) (m : ℕ) (is_o : outer ≡ Some o) (is_m : mac ≡ Some m) where
        pub led_spent : (e : Refusal) → (e ≡ MemoryRefusal) ⊎ ((e ≡ CountersSpent) × (drawing ≡ None)) → IsRefusalOf (floating_led settings state caller form owner n) e
        led_spent e (inl memory) = inl memory
        led_spent e (inr spent) = inr (led_passed ∙ (all_there n.id outer mac drawing None (rest goal) o m is_o is_m spent.1 ∙ ap Refused (sym spent.0)))

        pub led_moved : (d : Drawing) (t : Option Target) (f : FloatingRow) (rows : RowLists) → drawing ≡ Some d → t ≡ goal → f ≡ row_by t o d
            → rows ≡ made d.rows (Add (Floating f) ∷ Add (Port (own_port settings n f m o)) ∷ [])
            → floating_led settings state caller form owner n ≡ Moved rows (NewRow (floating_shown rows caller f []))
        led_moved d t f rows is_d is_t is leads =
            led_passed ∙ (all_there n.id outer mac drawing (Some d) (rest goal) o m is_o is_m is_d
            ∙ (ap (λ (g : FloatingRow). added_by g o m d) (sym (is ∙ ap (λ (t : Option Target). row_by t o d) is_t)) ∙ ap (λ (r : RowLists). Moved r (NewRow (floating_shown r caller f []))) (sym leads)))

  abbrev on_refusal : Option Refusal → Outcome
  on_refusal o = unless o (floating_led settings state caller form owner n)

  pub on_refused : (e : Refusal) → IsRefusalIn (creation_refusal state.rows caller form n) e → IsRefusalOf (floating_on settings state caller form owner n) e
  on_refused e (inl memory) = inl memory
  on_refused e (inr is) = inr (ap on_refusal is)

  pub on_passed : creation_refusal state.rows caller form n ≡ None → floating_on settings state caller form owner n ≡ floating_led settings state caller form owner n
  on_passed passed = ap on_refusal passed

module _ (settings : SettingsParts) (state : State) (caller : Caller) (form : FloatingForm) (owner : List ℕ) (network : Option NetworkRow) where
  abbrev on_seen : Option NetworkRow → Outcome
  on_seen seen = needing (not_found NetworkKind (text_of (value_of form.floating_network_id))) seen (floating_on settings state caller form owner)

  abbrev by_body : Option Refusal → Outcome
  by_body o = unless o (on_seen network)

  pub made_refused : (e : Refusal) → IsRefusalIn (body_refusal state.rows caller form owner network) e → IsRefusalOf (floating_made settings state caller form owner network) e
  made_refused e (inl memory) = inl memory
  made_refused e (inr is) = inr (ap by_body is)

  module _ (passed : body_refusal state.rows caller form owner network ≡ None) where
    pub made_unfound : (e : Refusal) → network ≡ None → IsOrMemory (not_found NetworkKind (text_of (value_of form.floating_network_id))) e → IsRefusalOf (floating_made settings state caller form owner network) e
    made_unfound e none (inl memory) = inl memory
    made_unfound e none (inr is) = inr (ap by_body passed ∙ (ap on_seen none ∙ ap Refused (sym is)))

    pub made_on : (n : NetworkRow) → network ≡ Some n → floating_made settings state caller form owner network ≡ floating_on settings state caller form owner n
    made_on n seen = ap by_body passed ∙ ap on_seen seen

-- whether a version is left, by the version that is read
pub left_at : (state : State) (version : ℕ) → version ≡ state.version → when (version == (2 ^ 64 - 1)) CountersSpent ≡ when (is_last state) CountersSpent
left_at state version is = λ j. when (is j == (2 ^ 64 - 1)) CountersSpent

module _ (state : State) (caller : Caller) (form : FloatingForm) (f : FloatingRow) where
  abbrev aim_then : Option Aim
  aim_then = aim_asked state.rows caller form

  abbrev refusal_then : Option Refusal
  refusal_then = unjoined state.rows f.project f.network aim_then

  abbrev goal_then : Option Target
  goal_then = target_of state.rows f.project f.network aim_then

  abbrev replaced_by : Option Target → Outcome
  replaced_by t = floating_replaced state caller (changed_floating form f t)

  abbrev led_then : Outcome
  led_then = with_target state.rows f.project f.network aim_then replaced_by

  abbrev on_update : Option Refusal → Outcome
  on_update o = unless o led_then

  abbrev on_router : Option Refusal → Outcome
  on_router o = unless o (replaced_by goal_then)

  abbrev on_last : Option Refusal → Outcome
  on_last o = unless o (accepted state.rows (Put (Floating (changed_floating form f goal_then)) ∷ []) (λ after. OneRow (floating_shown after caller (changed_floating form f goal_then) [])))

  pub changed_refused : (e : Refusal) → IsRefusalIn (update_refusal state caller form f) e → IsRefusalOf (floating_changed state caller form f) e
  changed_refused e (inl memory) = inl memory
  changed_refused e (inr is) = inr (ap on_update is)

  module _ (passed : update_refusal state caller form f ≡ None) where
    changed_is : floating_changed state caller form f ≡ on_router refusal_then
    changed_is = ap on_update passed ∙ with_target_is state.rows f.project f.network aim_then replaced_by

    pub changed_unjoined : (e : Refusal) → refusal_then ≡ Some e → IsRefusalOf (floating_changed state caller form f) e
    changed_unjoined e is = inr (changed_is ∙ ap on_router is)

    module _ (joined : refusal_then ≡ None) where
      changed_joined : floating_changed state caller form f ≡ on_last (when (is_last state) CountersSpent)
      changed_joined = changed_is ∙ ap on_router joined

      pub changed_last : (e : Refusal) → when (is_last state) CountersSpent ≡ Some e → IsRefusalOf (floating_changed state caller form f) e
      changed_last e is = inr (changed_joined ∙ ap on_last is)

      pub changed_leads : when (is_last state) CountersSpent ≡ None → (begun after : RowLists) (t : Option Target) (changed kept : FloatingRow) → begun ≡ state.rows → t ≡ goal_then → changed ≡ changed_floating form f t
          → kept ≡ changed → after ≡ with_put begun (Floating changed) → floating_changed state caller form f ≡ Moved after (OneRow (floating_shown after caller kept []))
      changed_leads room begun after t changed kept begins is_t is same leads =
          let row : changed ≡ changed_floating form f goal_then = is ∙ ap (changed_floating form f) is_t in
          let to : after ≡ with_put state.rows (Floating (changed_floating form f goal_then)) = leads ∙ (λ j. with_put (begins j) (Floating (row j))) in
          changed_joined ∙ (ap on_last room ∙ (λ j. Moved (sym to j) (OneRow (floating_shown (sym to j) caller (sym (same ∙ row) j) []))))

module _ (state : State) (caller : Caller) (name : IdText) (form : FloatingForm) where
  abbrev seen_then : Option FloatingRow → Outcome
  seen_then seen = needing (not_found FloatingKind name.text) seen (floating_changed state caller form)

  abbrev by_form : Option Refusal → Outcome
  by_form o = unless o (seen_then (floating_seen state.rows caller name.id))

  pub updated_lacking : (e : Refusal) → IsRefusalIn (lacking_refusal form) e → IsRefusalOf (floating_updated state caller name form) e
  updated_lacking e (inl memory) = inl memory
  updated_lacking e (inr is) = inr (ap by_form is)

  module _ (passed : lacking_refusal form ≡ None) where
    pub updated_unfound : (e : Refusal) → floating_seen state.rows caller name.id ≡ None → IsOrMemory (not_found FloatingKind name.text) e → IsRefusalOf (floating_updated state caller name form) e
    updated_unfound e none (inl memory) = inl memory
    updated_unfound e none (inr is) = inr (ap by_form passed ∙ (ap seen_then none ∙ ap Refused (sym is)))

    pub updated_on : (f : FloatingRow) → floating_seen state.rows caller name.id ≡ Some f → floating_updated state caller name form ≡ floating_changed state caller form f
    updated_on f seen = ap by_form passed ∙ ap seen_then seen

module _ (state : State) (caller : Caller) (name : IdText) (f : FloatingRow) (found : floating_seen state.rows caller name.id ≡ Some f) where
  abbrev gone : FloatingRow → Outcome
  gone g = accepted state.rows (Drop PortKind g.own_port ∷ Drop FloatingKind g.id ∷ []) (λ rows. NoRow)

  abbrev deleted_by : Option FloatingRow → Outcome
  deleted_by seen = needing (not_found FloatingKind name.text) seen (λ g. unless (deletion_refusal state caller g) (gone g))

  pub deletion_refused : (e : Refusal) → IsRefusalIn (deletion_refusal state caller f) e → IsRefusalOf (floating_deleted state caller name) e
  deletion_refused e (inl memory) = inl memory
  deletion_refused e (inr is) = inr (ap deleted_by found ∙ ap (λ o. unless o (gone f)) is)

  pub deletion_leads : deletion_refusal state caller f ≡ None → (after : RowLists) → after ≡ made state.rows (Drop PortKind f.own_port ∷ Drop FloatingKind f.id ∷ [])
      → floating_deleted state caller name ≡ Moved after NoRow
  deletion_leads passed after leads = ap deleted_by found ∙ (ap (λ o. unless o (gone f)) passed ∙ ap (λ (rows : RowLists). Moved rows NoRow) (sym leads))
