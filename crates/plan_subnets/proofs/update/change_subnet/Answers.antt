use Rattle.std.proofs.Common.{◌≡◌, ◌∙◌, ◌+◌, ◌≤◌, ◌^◌, Bool, None, Option, Some, not, ap, subst, sym}
use Rattle.std.specs.Prelude.{◌&&◌, ◌⊎◌, if◌then◌else◌}
use Rattle.std.proofs.lemmas.Result.{err_from_is_err_and}
use Rattle.api_ipam.specs.Euis.{fits_eui}
use Rattle.api_ipam.specs.MacChoice.{mac_if}
use Rattle.api_types.specs.HeldAddresses.{fixed_at}
use Rattle.api_types.specs.Registration.{drawn_id}
use Rattle.api_types.specs.RowLists.{RowLists}
use Rattle.api_types.specs.declared.refusal.Refusal.{Refusal}
use Rattle.api_types.specs.declared.refusal.Refusal.TheVariants.{CountersSpent, OutOfMemory}
use Rattle.api_types.specs.declared.subnet.SubnetRow.{SubnetRow}
use Rattle.call_parts.specs.Answers.{IsRefusalIn, drawing_of}
use Rattle.call_parts.specs.Edits.{made}
use Rattle.call_parts.specs.State.{drawing_at}
use Rattle.plan_subnets.specs.DhcpUpkeep.{dhcp_address, makes_dhcp_port}
use Rattle.plan_subnets.specs.Plans.{lease_refusal}
use Rattle.plan_subnets.specs.SubnetCalls.{changed_subnet, subnet_edits, update_refusal}
use Rattle.plan_subnets.proofs.CallLemmas.{drew_kept, drew_new, few_then, one_then, update_moved, update_refused, update_spent, update_unleased}
use Rattle.plan_subnets.proofs.update.change_subnet.Goals as goal

pub returns-in_err-ensure_changeable-clause-err : goal.returns-in_err-ensure_changeable-clause-err
returns-in_err-ensure_changeable-clause-err c =
    let asking = c.args.asking.now in
    let form = c.args.form.now in
    let old = c.args.old.now in
    let e = c.in_err-ensure_changeable.field-0.0 in
    let refused = subst (λ (t : SubnetRow). IsRefusalIn (update_refusal asking.state.rows asking.caller form old t) e) c.in_ok-new.ensures c.in_err-ensure_changeable.ensures in
    let p = err_from_is_err_and c.from_residual-in_err-ensure_changeable.result c.from_residual-in_err-ensure_changeable.ensures.1 in
    rw (p.1, p.2) (update_refused asking.settings asking.state asking.caller form c.args.network.now old (changed_subnet form old) e refused)

pub lease_for-requires : goal.lease_for-requires
lease_for-requires c = ap fits_eui c.in_ok-new.ensures ∙ c.requires.fits

pub returns-in_err-lease-clause-err : goal.returns-in_err-lease-clause-err
returns-in_err-lease-clause-err c =
    let asking = c.args.asking.now in
    let form = c.args.form.now in
    let n = c.args.network.now in
    let old = c.args.old.now in
    let e = c.in_err-lease.field-0.0 in
    let is = c.in_ok-new.ensures in
    let passed = ap (λ (t : SubnetRow). update_refusal asking.state.rows asking.caller form old t) (sym is) ∙ c.in_ok-ensure_changeable.ensures in
    let begun = c.begins.ensures ∙ ap (λ (t : SubnetRow). t.dhcp && not old.dhcp) is in
    let refused = subst (λ (o : Option Refusal). IsRefusalIn o e) (λ j. lease_refusal (c.rows.ensures.rows j).ports n.id (begun j) (is j)) c.in_err-lease.ensures.refused in
    let p = err_from_is_err_and c.from_residual-in_err-lease.result c.from_residual-in_err-lease.ensures.1 in
    rw (p.1, p.2) (update_unleased asking.settings asking.state asking.caller form n old (changed_subnet form old) passed e refused)

pub returns-in_err-drawn-clause-err : goal.returns-in_err-drawn-clause-err
returns-in_err-drawn-clause-err c =
    let asking = c.args.asking.now in
    let form = c.args.form.now in
    let n = c.args.network.now in
    let old = c.args.old.now in
    let lease = c.in_ok-lease.lease in
    let e = c.in_err-drawn.field-0.0 in
    let is = c.in_ok-new.ensures in
    let passed = ap (λ (t : SubnetRow). update_refusal asking.state.rows asking.caller form old t) (sym is) ∙ c.in_ok-ensure_changeable.ensures in
    let begun = c.begins.ensures ∙ ap (λ (t : SubnetRow). t.dhcp && not old.dhcp) is in
    let address = sym (λ j. dhcp_address (c.rows.ensures.rows j).ports n.id (begun j) (is j)) ∙ c.in_ok-lease.ensures.address in
    let mac = sym (λ j. mac_if (makes_dhcp_port (c.rows.ensures.rows j).ports n.id (begun j)) (c.rows.ensures.rows j).ports n.id) ∙ c.in_ok-lease.ensures.mac in
    let makes = c.in_ok-lease.ensures.makes ∙ (λ j. makes_dhcp_port (c.rows.ensures.rows j).ports n.id (begun j)) in
    let many = c.ids_taken.ensures ∙ ap (λ (b : Bool). if b then 1 else 0) makes in
    let spent = subst (λ m. (e ≡ OutOfMemory) ⊎ ((e ≡ CountersSpent) × (drawing_at asking.state n.project m ≡ None))) many c.in_err-drawn.ensures.spent in
    let p = err_from_is_err_and c.from_residual-in_err-drawn.result c.from_residual-in_err-drawn.ensures.1 in
    rw (p.1, p.2) (update_spent asking.settings asking.state asking.caller form n old (changed_subnet form old) passed lease.address lease.mac address mac e spent)

pub put_subnet-requires-clause-within : goal.put_subnet-requires-clause-within
put_subnet-requires-clause-within c = subst (λ m. c.in_ok-drawn.drawn.first + m ≤ 2 ^ 62) c.ids_taken.ensures c.in_ok-drawn.ensures.within

pub put_subnet-requires-clause-makes : goal.put_subnet-requires-clause-makes
put_subnet-requires-clause-makes c =
    let state = c.args.asking.now.state in
    let n = c.args.network.now in
    let lease = c.in_ok-lease.lease in
    let drew = subst (λ m. drawing_at state n.project m ≡ Some (drawing_of c.in_ok-drawn.drawn)) c.ids_taken.ensures c.in_ok-drawn.ensures.drawn in
    let kept = drew_kept state n.project (if lease.makes then 1 else 0) (few_then lease.makes) (drawing_of c.in_ok-drawn.drawn) c.in_ok-drawn.ensures.consistent c.requires.named drew in
    c.in_ok-lease.ensures.makes ∙ (ap (λ (r : RowLists). makes_dhcp_port r.ports n.id c.begins.result) c.rows.ensures.rows
    ∙ (λ j. makes_dhcp_port (sym kept.ports j) n.id (c.begins.ensures j)))

pub put_subnet-requires-clause-new_port : goal.put_subnet-requires-clause-new_port
put_subnet-requires-clause-new_port c = λ makes.
    let state = c.args.asking.now.state in
    let n = c.args.network.now in
    let lease = c.in_ok-lease.lease in
    let drew = subst (λ m. drawing_at state n.project m ≡ Some (drawing_of c.in_ok-drawn.drawn)) c.ids_taken.ensures c.in_ok-drawn.ensures.drawn in
    (drew_new state n.project (if lease.makes then 1 else 0) (few_then lease.makes) (drawing_of c.in_ok-drawn.drawn) c.in_ok-drawn.ensures.consistent c.requires.named drew 0 (one_then lease.makes makes)).ports

pub returns-clause-ok : goal.returns-clause-ok
returns-clause-ok c =
    let asking = c.args.asking.now in
    let form = c.args.form.now in
    let n = c.args.network.now in
    let old = c.args.old.now in
    let lease = c.in_ok-lease.lease in
    let d = drawing_of c.in_ok-drawn.drawn in
    let planned = c.in_ok-put_subnet.field-0 in
    let is = c.in_ok-new.ensures in
    let passed = ap (λ (t : SubnetRow). update_refusal asking.state.rows asking.caller form old t) (sym is) ∙ c.in_ok-ensure_changeable.ensures in
    let begun = c.begins.ensures ∙ ap (λ (t : SubnetRow). t.dhcp && not old.dhcp) is in
    let address = sym (λ j. dhcp_address (c.rows.ensures.rows j).ports n.id (begun j) (is j)) ∙ c.in_ok-lease.ensures.address in
    let mac = sym (λ j. mac_if (makes_dhcp_port (c.rows.ensures.rows j).ports n.id (begun j)) (c.rows.ensures.rows j).ports n.id) ∙ c.in_ok-lease.ensures.mac in
    let makes = c.in_ok-lease.ensures.makes ∙ (λ j. makes_dhcp_port (c.rows.ensures.rows j).ports n.id (begun j)) in
    let many = c.ids_taken.ensures ∙ ap (λ (b : Bool). if b then 1 else 0) makes in
    let drew = subst (λ m. drawing_at asking.state n.project m ≡ Some d) many c.in_ok-drawn.ensures.drawn in
    let leads = c.in_ok-put_subnet.ensures.rows ∙ (λ j. made d.rows (subnet_edits (c.settings.ensures j) d.rows n old (is j) (drawn_id d 0) lease.mac (fixed_at (is j).id lease.address))) in
    record {
      start = c.in_ok-put_subnet.ensures.start ∙ c.in_ok-drawn.ensures.start;
      moved = update_moved asking.settings asking.state asking.caller form n old (changed_subnet form old) passed lease.address lease.mac address mac d planned.row planned.draft.rows drew (c.in_ok-put_subnet.ensures.row ∙ is) leads;
    }
