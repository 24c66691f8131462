use Rattle.std.proofs.Common.{◌≡◌, ◌∙◌, ◌+◌, ◌≤◌, ◌^◌, ◌∷◌, Bool, List, None, Option, Some, ap, arith, subst, sym}
use Rattle.std.specs.Prelude.{◌⊎◌, if◌then◌else◌}
use Rattle.std.proofs.lemmas.Result.{err_from_is_err_and}
use Rattle.api_ipam.specs.Euis.{fits_eui}
use Rattle.api_ipam.specs.MacChoice.{mac_if}
use Rattle.api_types.specs.HeldAddresses.{fixed_at}
use Rattle.api_types.specs.Registration.{ident}
use Rattle.api_types.specs.RowLists.{RowLists}
use Rattle.api_types.specs.Table.{row_of}
use Rattle.api_types.specs.declared.kind.Row.TheVariants.{Subnet}
use Rattle.api_types.specs.declared.port.PortRow.{PortRow}
use Rattle.api_types.specs.declared.refusal.Refusal.{Refusal}
use Rattle.api_types.specs.declared.refusal.Refusal.TheVariants.{CountersSpent, OutOfMemory}
use Rattle.api_types.specs.declared.subnet.SubnetRow.{SubnetRow}
use Rattle.call_parts.specs.Answers.{IsRefusalIn, drawing_of}
use Rattle.call_parts.specs.Edits.{Add, made}
use Rattle.call_parts.specs.State.{drawing_at}
use Rattle.plan_subnets.specs.DhcpUpkeep.{begin_serving, dhcp_address, makes_dhcp_port}
use Rattle.plan_subnets.specs.Plans.{lease_refusal}
use Rattle.plan_subnets.specs.SubnetCalls.{new_subnet}
use Rattle.plan_subnets.proofs.CallLemmas.{drew_kept, drew_new, few_ids, made_moved, made_refused, made_spent, made_unleased, one_id, two_ids}
use Rattle.plan_subnets.proofs.creation.make_subnet.Goals as goal

pub returns-in_err-ensure_creatable-clause-err : goal.returns-in_err-ensure_creatable-clause-err
returns-in_err-ensure_creatable-clause-err c =
    let asking = c.args.asking.now in
    let p = err_from_is_err_and c.from_residual.result c.from_residual.ensures.1 in
    rw (p.1, p.2) (made_refused asking.settings asking.state asking.caller c.args.form.now c.args.network.now c.in_err-ensure_creatable.field-0.0 c.in_err-ensure_creatable.ensures)

pub lease_for-requires : goal.lease_for-requires
lease_for-requires c = ap fits_eui (c.in_ok-subnet.ensures ∙ ap (new_subnet c.args.form.now c.args.network.now) c.make.ensures) ∙ c.requires.fits

pub returns-in_err-lease-clause-err : goal.returns-in_err-lease-clause-err
returns-in_err-lease-clause-err c =
    let asking = c.args.asking.now in
    let n = c.args.network.now in
    let e = c.in_err-lease.field-0.0 in
    let is = c.in_ok-subnet.ensures ∙ ap (new_subnet c.args.form.now n) c.make.ensures in
    let refused = subst (λ (o : Option Refusal). IsRefusalIn o e) (λ j. lease_refusal (c.rows.ensures.rows j).ports n.id (is j).dhcp (is j)) c.in_err-lease.ensures.refused in
    let p = err_from_is_err_and c.from_residual-in_err-lease.result c.from_residual-in_err-lease.ensures.1 in
    rw (p.1, p.2) (made_unleased asking.settings asking.state asking.caller c.args.form.now n c.in_ok-ensure_creatable.ensures e refused)

pub returns-in_err-drawn-clause-err : goal.returns-in_err-drawn-clause-err
returns-in_err-drawn-clause-err c =
    let asking = c.args.asking.now in
    let n = c.args.network.now in
    let lease = c.in_ok-lease.lease in
    let e = c.in_err-drawn.field-0.0 in
    let is = c.in_ok-subnet.ensures ∙ ap (new_subnet c.args.form.now n) c.make.ensures in
    let address = sym (λ j. dhcp_address (c.rows.ensures.rows j).ports n.id (is j).dhcp (is j)) ∙ c.in_ok-lease.ensures.address in
    let mac = sym (λ j. mac_if (makes_dhcp_port (c.rows.ensures.rows j).ports n.id (is j).dhcp) (c.rows.ensures.rows j).ports n.id) ∙ c.in_ok-lease.ensures.mac in
    let makes = c.in_ok-lease.ensures.makes ∙ (λ j. makes_dhcp_port (c.rows.ensures.rows j).ports n.id (is j).dhcp) in
    let many = c.ids_taken.ensures ∙ ap (λ (b : Bool). if b then 2 else 1) makes in
    let spent = subst (λ m. (e ≡ OutOfMemory) ⊎ ((e ≡ CountersSpent) × (drawing_at asking.state n.project m ≡ None))) many c.in_err-drawn.ensures.spent in
    let p = err_from_is_err_and c.from_residual-in_err-drawn.result c.from_residual-in_err-drawn.ensures.1 in
    rw (p.1, p.2) (made_spent asking.settings asking.state asking.caller c.args.form.now n c.in_ok-ensure_creatable.ensures lease.address lease.mac address mac e spent)

pub add_subnet-requires-clause-within : goal.add_subnet-requires-clause-within
add_subnet-requires-clause-within c = subst (λ m. c.in_ok-drawn.drawn.first + m ≤ 2 ^ 62) c.ids_taken.ensures c.in_ok-drawn.ensures.within

pub add_subnet-requires-clause-makes : goal.add_subnet-requires-clause-makes
add_subnet-requires-clause-makes c =
    let state = c.args.asking.now.state in
    let n = c.args.network.now in
    let lease = c.in_ok-lease.lease in
    let drew = subst (λ m. drawing_at state n.project m ≡ Some (drawing_of c.in_ok-drawn.drawn)) c.ids_taken.ensures c.in_ok-drawn.ensures.drawn in
    let kept = drew_kept state n.project (if lease.makes then 2 else 1) (few_ids lease.makes) (drawing_of c.in_ok-drawn.drawn) c.in_ok-drawn.ensures.consistent c.requires.named drew in
    c.in_ok-lease.ensures.makes ∙ (ap (λ (r : RowLists). makes_dhcp_port r.ports n.id c.in_ok-subnet.subnet.dhcp) c.rows.ensures.rows
    ∙ ap (λ (ps : List PortRow). makes_dhcp_port ps n.id c.in_ok-subnet.subnet.dhcp) (sym kept.ports))

pub add_subnet-requires-clause-new_subnet : goal.add_subnet-requires-clause-new_subnet
add_subnet-requires-clause-new_subnet c =
    let state = c.args.asking.now.state in
    let n = c.args.network.now in
    let lease = c.in_ok-lease.lease in
    let d = c.in_ok-drawn.drawn in
    let drew = subst (λ m. drawing_at state n.project m ≡ Some (drawing_of d)) c.ids_taken.ensures c.in_ok-drawn.ensures.drawn in
    let new = drew_new state n.project (if lease.makes then 2 else 1) (few_ids lease.makes) (drawing_of d) c.in_ok-drawn.ensures.consistent c.requires.named drew in
    let first : d.first + 0 ≡ d.first = omega arith in
    subst (λ k. row_of (λ (s : SubnetRow). s.id) (ident d.ordinal k) d.draft.rows.subnets ≡ None) first (new 0 (one_id lease.makes)).subnets

pub add_subnet-requires-clause-new_port : goal.add_subnet-requires-clause-new_port
add_subnet-requires-clause-new_port c = λ makes.
    let state = c.args.asking.now.state in
    let n = c.args.network.now in
    let lease = c.in_ok-lease.lease in
    let d = c.in_ok-drawn.drawn in
    let drew = subst (λ m. drawing_at state n.project m ≡ Some (drawing_of d)) c.ids_taken.ensures c.in_ok-drawn.ensures.drawn in
    let new = drew_new state n.project (if lease.makes then 2 else 1) (few_ids lease.makes) (drawing_of d) c.in_ok-drawn.ensures.consistent c.requires.named drew in
    (new 1 (two_ids lease.makes makes)).ports

pub returns-clause-ok : goal.returns-clause-ok
returns-clause-ok c =
    let asking = c.args.asking.now in
    let n = c.args.network.now in
    let lease = c.in_ok-lease.lease in
    let d = c.in_ok-drawn.drawn in
    let planned = c.in_ok-add_subnet.field-0 in
    let is = c.in_ok-subnet.ensures ∙ ap (new_subnet c.args.form.now n) c.make.ensures in
    let address = sym (λ j. dhcp_address (c.rows.ensures.rows j).ports n.id (is j).dhcp (is j)) ∙ c.in_ok-lease.ensures.address in
    let mac = sym (λ j. mac_if (makes_dhcp_port (c.rows.ensures.rows j).ports n.id (is j).dhcp) (c.rows.ensures.rows j).ports n.id) ∙ c.in_ok-lease.ensures.mac in
    let makes = c.in_ok-lease.ensures.makes ∙ (λ j. makes_dhcp_port (c.rows.ensures.rows j).ports n.id (is j).dhcp) in
    let many = c.ids_taken.ensures ∙ ap (λ (b : Bool). if b then 2 else 1) makes in
    let drew = subst (λ m. drawing_at asking.state n.project m ≡ Some (drawing_of d)) many c.in_ok-drawn.ensures.drawn in
    let first : d.first ≡ d.first + 0 = omega arith in
    let made_row = c.in_ok-add_subnet.ensures.row ∙ (λ j. record (is j) { id = ident d.ordinal (first j) }) in
    let leads = c.in_ok-add_subnet.ensures.rows
    ∙ (λ j. made d.draft.rows (Add (Subnet planned.row) ∷ begin_serving (c.settings.ensures j) d.draft.rows n planned.row.dhcp (ident d.ordinal (d.first + 1)) lease.mac (fixed_at planned.row.id lease.address))) in
    record {
      start = c.in_ok-add_subnet.ensures.start ∙ c.in_ok-drawn.ensures.start;
      moved = made_moved asking.settings asking.state asking.caller c.args.form.now n c.in_ok-ensure_creatable.ensures lease.address lease.mac address mac (drawing_of d) planned.row planned.draft.rows drew made_row
          leads;
    }
