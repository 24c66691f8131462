-- An accepted deletion of a subnet keeps rows consistent.
use Rattle.kept_laws.proofs.FixedFits.{each_append, each_cons, each_none}
use Rattle.kept_laws.proofs.TypedKept.{HaveKept, IsTypedEdit, made_typed}
use Rattle.plan_subnets.proofs.ServingTyped.{end_typed}
use Rattle.std.proofs.Common.{Bool, List, None, Some, [], ap, arith, cond, false, not, refl, slice_get, slice_set, subst, suc, sym, true, zero, ℕ, ◌++◌, ◌∙◌, ◌∷◌, ◌≡◌}
use Rattle.std.specs.Prelude.{filter, find, ◌&&◌}
use Rattle.api_types.specs.Consistent.{IsConsistent}
use Rattle.api_types.specs.Lists.{Each}
use Rattle.api_types.specs.Outcome.{Moved, Outcome}
use Rattle.api_types.specs.Owners.{holds_in, is_dhcp}
use Rattle.api_types.specs.Printed.{NoRow, Reply}
use Rattle.api_types.specs.RowLists.{RowLists}
use Rattle.api_types.specs.Table.{ident_eq}
use Rattle.api_types.specs.declared.call.Caller.{Caller}
use Rattle.api_types.specs.declared.call.IdText.{IdText}
use Rattle.api_types.specs.declared.kind.Kind.TheVariants.{Subnet as SubnetKind}
use Rattle.api_types.specs.declared.port.Fixed.{Fixed}
use Rattle.api_types.specs.declared.refusal.Refusal.TheVariants.{CountersSpent}
use Rattle.api_types.specs.declared.subnet.SubnetRow.{SubnetRow}
use Rattle.row_laws.specs.Gone.{IsUnusedSubnet, with_subnets_kept}
use Rattle.row_laws.proofs.Service.DhcpLemmas.{is_there}
use Rattle.api_types.proofs.ListLemmas.{and_both, any-at, any-none, false_true, none_some, one_row, some_equal}
use Rattle.api_types.proofs.NameLemmas.{by_test, ident_itself, ident_sym, not_false}
use Rattle.row_laws.proofs.SetLemmas.{set_here}
use Rattle.row_laws.proofs.SubnetsGone.{subnets_gone}
use Rattle.kept_laws.proofs.EditedRows.{none_refused}
use Rattle.kept_laws.proofs.GatewayStays.{unmapped}
use Rattle.plan_subnets.proofs.ServingEnds.{serving_ended}
use Rattle.kept_laws.proofs.SubnetForms.{unleased, unleased_form, unleased_same}
use Rattle.plan_subnets.specs.DhcpUpkeep.{end_serving}
use Rattle.call_parts.specs.Edits.{Drop, accepted, made}
use Rattle.api_policy.specs.Permits.{network_owner}
use Rattle.api_policy.specs.Seen.{subnet_seen}
use Rattle.plan_subnets.specs.SubnetCalls.{deletion_refusal, subnet_deleted, subnet_gone}
use Rattle.api_policy.specs.Uses.{is_subnet_user, subnet_in_use}
use Rattle.api_policy.specs.Visibility.{sees_subnet}
use Rattle.kept_laws.proofs.OutcomeLemmas.{moved_rows, named_is, needing_moved, unfound, unless_moved}
use Rattle.api_types.specs.Refusing.{not_found, unless, when}
use Rattle.call_parts.specs.State.{State, is_last}
use Rattle.kept_laws.proofs.CarriedKept.{IsCarriedEdit, made_carried}
use Rattle.plan_subnets.proofs.ServingCarried.{end_carried}
use Rattle.api_ml2.specs.Carrying.{carries}
use Rattle.net_settings.specs.Settings.{SettingsParts}
use Rattle.call_parts.proofs.EditLemmas.{made-append}

-- a row that goes may be replaced first
filter_set : {R : Type 0} (keep : R → Bool) (xs : List R) (k : ℕ) (old new : R) → slice_get xs k ≡ Some old → keep old ≡ false → keep new ≡ false → filter keep (slice_set xs k new) ≡ filter keep xs
filter_set keep [] k old new at was is = none_some old _ at
filter_set keep (a ∷ xs) zero old new at was is =
    ap (λ b. cond b (new ∷ filter keep xs) (filter keep xs)) is ∙ sym (ap (λ b. cond b (a ∷ filter keep xs) (filter keep xs)) (ap keep (some_equal a old at) ∙ was))
filter_set keep (a ∷ xs) (suc k) old new at was is = ap (λ ys. cond (keep a) (a ∷ ys) ys) (filter_set keep xs k old new at was is)

-- a subnet that is not leased, and in which no port but a DHCP port holds an address, is unused
unused : (rows : RowLists) (place : ℕ) (s : SubnetRow) → slice_get rows.subnets place ≡ Some s → s.dhcp ≡ false → IsConsistent rows
    → Each (λ q. is_dhcp q.owner ≡ false → holds_in s.id q ≡ false) rows.ports → IsUnusedSubnet rows.ports s
unused rows place s at plain c none = record {
  plain = plain;
  unheld = λ k q at_q. by_test (is_dhcp q.owner) (holds_in s.id q ≡ false)
      (λ dhcp. any-none (λ (f : Fixed). ident_eq s.id f.subnet) q.fixed (λ m f at_f. by_test (ident_eq s.id f.subnet) (ident_eq s.id f.subnet ≡ false)
      (λ mine.
      let found = any-at (λ (t : SubnetRow). ident_eq f.subnet t.id && (ident_eq t.network q.network && t.dhcp)) rows.subnets (is_there rows c k q at_q dhcp m f at_f) in
      let t : SubnetRow = found.1 in
      let both = and_both (ident_eq f.subnet t.id) _ found.3 in
      let one = one_row (λ (r : SubnetRow). ident_eq f.subnet r.id) rows.subnets (omega (arith, c.numbered.ids f.subnet)) found.0 place t s found.2 at both.0 (ident_sym s.id f.subnet mine) in
      false_true _ (sym plain ∙ (ap (λ (r : SubnetRow). r.dhcp) (sym one) ∙ (and_both (ident_eq t.network q.network) t.dhcp both.1).1)))
      (λ fails. fails)))
      (λ other. none k q at_q other);
}

module _ (state : State) (caller : Caller) (s : SubnetRow) (place : ℕ) (at : slice_get state.rows.subnets place ≡ Some s) (c : IsConsistent state.rows) (passed : deletion_refusal state caller s ≡ None) where
  abbrev stays : SubnetRow → Bool
  stays t = not (ident_eq s.id t.id)

  -- no port but a DHCP port holds an address in it
  unheld : Each (λ q. is_dhcp q.owner ≡ false → holds_in s.id q ≡ false) state.rows.ports
  unheld k q at_q plain =
      let os = network_owner state.rows caller true s.network ∷ subnet_in_use state.rows caller s.id ∷ when (is_last state) CountersSpent ∷ [] in
      let free = unmapped _ (find (is_subnet_user s.id) state.rows.ports) (none_refused os passed 1 (subnet_in_use state.rows caller s.id) refl) in
      sym (ap (λ b. not b && holds_in s.id q) plain) ∙ unfound (is_subnet_user s.id) state.rows.ports free k q at_q

  gone_kept : IsConsistent (made state.rows (subnet_gone state.rows s))
  gone_kept = by s.dhcp refl
    where
      -- where it is leased no more
      last : (r : RowLists) (t : SubnetRow) → slice_get r.subnets place ≡ Some t → ident_eq s.id t.id ≡ true → t.dhcp ≡ false → IsConsistent r
          → Each (λ q. is_dhcp q.owner ≡ false → holds_in t.id q ≡ false) r.ports → IsConsistent (with_subnets_kept stays r)
      last r t at_t same plain all none =
          let free = unused r place t at_t plain all none in
          subnets_gone stays r (λ l u at_u goes.
          let one = one_row (λ (x : SubnetRow). ident_eq s.id x.id) r.subnets (omega (arith, all.numbered.ids s.id)) place l t u at_t at_u same (not_false (ident_eq s.id u.id) goes) in
          subst (IsUnusedSubnet r.ports) one free) all

      by : (b : Bool) → s.dhcp ≡ b → IsConsistent (made state.rows (end_serving state.rows s.network b s.id ++ Drop SubnetKind s.id ∷ []))
      by false plain = last state.rows s at (ident_itself s.id) plain c unheld
      by true leased =
          let ended = serving_ended state.rows place s (unleased s) at c leased refl (unleased_same state.rows.ports s) (unleased_form s (c.in_form.subnet_forms place s at)) in
          let now : RowLists = record state.rows { subnets = slice_set state.rows.subnets place (unleased s); ports = ended.ports; floatings = ended.floatings } in
          let all = last now (unleased s) (set_here state.rows.subnets place s (unleased s) at) (ident_itself s.id) refl ended.consistent
          (λ k q at_q plain. let r = ended.others k q at_q plain in unheld r.0 q r.1 plain) in
          subst IsConsistent (sym (made-append state.rows (end_serving state.rows s.network true s.id) (Drop SubnetKind s.id ∷ [])
          ∙ (ap (λ (r : RowLists). made r (Drop SubnetKind s.id ∷ [])) (ended.is state.rows.subnets)
          ∙ ap (λ subnets. record state.rows { subnets = subnets; ports = ended.ports; floatings = ended.floatings })
          (sym (filter_set stays state.rows.subnets place s (unleased s) at (ap not (ident_itself s.id)) (ap not (ident_itself s.id))))))) all

pub deleted_kept : (settings : SettingsParts) (state : State) (caller : Caller) (name : IdText) (rows : RowLists) (reply : Reply) → IsConsistent state.rows → subnet_deleted state caller name ≡ Moved rows reply → HaveKept settings state.rows rows
deleted_kept settings state caller name rows reply c h =
    let rest : SubnetRow → Outcome = λ s. unless (deletion_refusal state caller s) (accepted state.rows (subnet_gone state.rows s) (λ rows. NoRow)) in
    let found = needing_moved (not_found SubnetKind name.text) (subnet_seen state.rows caller name.id) rest rows reply h in
    let s : SubnetRow = found.0 in
    let here = named_is (λ (q : SubnetRow). q.id) (sees_subnet state.rows caller) state.rows.subnets name.id s found.1 in
    let passed = unless_moved (deletion_refusal state caller s) (accepted state.rows (subnet_gone state.rows s) (λ rows. NoRow)) rows reply found.2 in
    subst (HaveKept settings state.rows) (moved_rows (made state.rows (subnet_gone state.rows s)) rows NoRow reply passed.1) (record {
      consistent = gone_kept state caller s here.place here.at c passed.0;
      typed = λ t. made_typed state.rows (subnet_gone state.rows s) t (each_append IsTypedEdit (end_serving state.rows s.network s.dhcp s.id) (Drop SubnetKind s.id ∷ [])
          (end_typed state.rows s.network s.dhcp s.id t) (each_cons IsTypedEdit (Drop SubnetKind s.id) [] tt (each_none IsTypedEdit)));
      carried = λ held. let can = carries settings.hosts in
          made_carried can state.rows (subnet_gone state.rows s) held (each_append (IsCarriedEdit can state.rows.networks) (end_serving state.rows s.network s.dhcp s.id) (Drop SubnetKind s.id ∷ [])
          (end_carried can state.rows s.network s.dhcp s.id held) (each_cons (IsCarriedEdit can state.rows.networks) (Drop SubnetKind s.id) [] tt (each_none (IsCarriedEdit can state.rows.networks))));
    })
