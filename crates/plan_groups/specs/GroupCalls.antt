-- What calls on security groups and their rules come to (Networking API v2.0, security groups).
use Rattle.call_parts.specs.BodyNames.{no_id, text_of, unless_all}
use Rattle.call_parts.specs.Edits.{Add, Drop, Edit, Put, accepted, dropped}
use Rattle.api_policy.specs.Permits.{admin_only, owner_only}
use Rattle.api_policy.specs.Quotas.{over_quota}
use Rattle.api_secgroup.specs.RuleParts.{bad_part, equal_rule, new_rule}
use Rattle.api_policy.specs.Seen.{group_seen, rule_seen}
use Rattle.api_policy.specs.Uses.{default_in_use, group_in_use}
use Rattle.api_policy.specs.Groups.{group_members, rule_members}
use Rattle.api_policy.specs.Shown.{shown_as}
use Rattle.api_types.specs.Given.{are_unlike, is_for_other, is_given, owner_of, value_of, value_or}
use Rattle.api_types.specs.Refusing.{first_refusal, needing, not_found, unless, when}
use Rattle.call_parts.specs.State.{State, drawing_at, is_last}
use Rattle.api_types.specs.Ident.{Ident}
use Rattle.api_types.specs.Lists.{is_some_so}
use Rattle.api_types.specs.Outcome.{Outcome}
use Rattle.api_types.specs.Printed.{NewRow, NoRow, OneRow, ShownRow}
use Rattle.api_types.specs.Registration.{Drawing, drawn_id}
use Rattle.api_types.specs.RowLists.{RowLists}
use Rattle.api_types.specs.declared.call.Caller.{Caller}
use Rattle.api_types.specs.declared.call.IdText.{IdText}
use Rattle.api_types.specs.declared.form.GroupForm.{GroupForm}
use Rattle.api_types.specs.declared.form.RuleForm.{RuleForm}
use Rattle.api_types.specs.declared.group.Direction.TheVariants.{Egress}
use Rattle.api_types.specs.declared.group.Ethertype.TheVariants.{Ipv4, Ipv6}
use Rattle.api_types.specs.declared.group.Ethertype.{Ethertype}
use Rattle.api_types.specs.declared.group.GroupRow.{GroupRow}
use Rattle.api_types.specs.declared.group.RuleRow.{RuleRow}
use Rattle.api_types.specs.declared.kind.Kind.TheVariants.{Group as GroupKind, Rule as RuleKind}
use Rattle.api_types.specs.declared.kind.Row.TheVariants.{Group, Rule}
use Rattle.api_types.specs.declared.refusal.Refusal.TheVariants.{CountersSpent, Exists, Invalid}
use Rattle.api_types.specs.declared.refusal.Refusal.{Refusal}
use Rattle.net_settings.specs.Settings.{SettingsParts}
use Rattle.row_laws.specs.Gone.{names_group}
use Rattle.std.specs.Prelude.{Bool, List, None, Option, Some, [], bytes_eq, codes, false, filter, option_map, option_to_list, true, ◌&&◌, ◌++◌, ◌∷◌}
use Rattle.net_addr.specs.Words.{Text}

abbrev pub group_shown : RowLists → Caller → GroupRow → List Text → ShownRow
group_shown rows caller g fields = shown_as GroupKind caller.admin fields (group_members rows g)

abbrev pub rule_shown : RowLists → Caller → RuleRow → List Text → ShownRow
rule_shown rows caller r fields = shown_as RuleKind caller.admin fields (rule_members r)

-- making a group, with its two rules: all may go out

abbrev pub new_group : GroupForm → Text → Ident → GroupRow
new_group form owner i = record {
  id = i;
  project = owner;
  name = value_or [] form.name;
  description = value_or [] form.description;
  is_default = false;
}

abbrev pub egress_rule : GroupRow → Ethertype → Ident → RuleRow
egress_rule g ethertype i = record {
  id = i;
  project = g.project;
  group = g.id;
  description = [];
  direction = Egress;
  ethertype = ethertype;
  protocol = None;
  low = None;
  high = None;
  remote_prefix = None;
  remote_group = None;
}

abbrev pub group_added : Caller → Drawing → GroupRow → Outcome
group_added caller drawing g =
    accepted drawing.rows
    (Add (Group g) ∷ Add (Rule (egress_rule g Ipv4 (drawn_id drawing 1)))
    ∷ Add (Rule (egress_rule g Ipv6 (drawn_id drawing 2))) ∷ [])
    (λ rows. NewRow (group_shown rows caller g []))

abbrev pub group_creation_refusal : SettingsParts → RowLists → Caller → GroupForm → Text
    → Option Refusal
group_creation_refusal settings rows caller form owner = first_refusal (
    when (are_unlike form.project_id form.tenant_id) (Invalid (codes "tenant_id"))
    ∷ admin_only caller (is_for_other caller form.project_id form.tenant_id)
    ∷ over_quota settings rows owner GroupKind
    ∷ [])

abbrev pub group_made : SettingsParts → State → Caller → GroupForm → Text → Outcome
group_made settings state caller form owner =
    unless (group_creation_refusal settings state.rows caller form owner)
    (needing CountersSpent (drawing_at state owner 3) (λ drawing.
    group_added caller drawing (new_group form owner (drawn_id drawing 0))))

abbrev pub group_created : SettingsParts → State → Caller → GroupForm → Outcome
group_created settings state caller form =
    group_made settings state caller form (owner_of caller form.project_id form.tenant_id)

-- changing a group; the default group keeps its name

abbrev pub changed_group : GroupForm → GroupRow → GroupRow
changed_group form g = record g {
  name = value_or g.name form.name;
  description = value_or g.description form.description;
}

abbrev pub group_update_refusal : State → Caller → GroupForm → GroupRow → Option Refusal
group_update_refusal state caller form g = first_refusal (
    when (g.is_default && is_given form.name) (Invalid (codes "name"))
    ∷ owner_only caller g.project
    ∷ when (is_last state) CountersSpent
    ∷ [])

abbrev pub group_replaced : Caller → RowLists → GroupRow → Outcome
group_replaced caller rows g =
    accepted rows (Put (Group g) ∷ []) (λ after. OneRow (group_shown after caller g []))

abbrev pub group_updated : State → Caller → IdText → GroupForm → Outcome
group_updated state caller name form =
    needing (not_found GroupKind name.text) (group_seen state.rows caller name.id) (λ g.
    unless (group_update_refusal state caller form g)
    (group_replaced caller state.rows (changed_group form g)))

-- taking a group out, with its rules and those that name it as remote group

abbrev pub group_deletion_refusal : State → Caller → GroupRow → Option Refusal
group_deletion_refusal state caller g = first_refusal (
    owner_only caller g.project
    ∷ default_in_use g
    ∷ group_in_use state.rows caller g.id
    ∷ when (is_last state) CountersSpent
    ∷ [])

abbrev pub group_gone : RowLists → Ident → List Edit
group_gone rows i =
    dropped RuleKind (λ r. r.id) (filter (names_group i) rows.rules) ++ Drop GroupKind i ∷ []

abbrev pub group_deleted : State → Caller → IdText → Outcome
group_deleted state caller name =
    needing (not_found GroupKind name.text) (group_seen state.rows caller name.id) (λ g.
    unless (group_deletion_refusal state caller g)
    (accepted state.rows (group_gone state.rows g.id) (λ rows. NoRow)))

-- making a rule, of its group's project

-- the remote group is seen; where the rule's group is found, it is of its project
abbrev pub is_remote_for : Caller → Option GroupRow → GroupRow → Bool
is_remote_for caller None remote = true
is_remote_for caller (Some g) remote = bytes_eq remote.project g.project

abbrev pub is_remote_seen : RowLists → Caller → Option GroupRow → Ident → Bool
is_remote_seen rows caller g i =
    is_some_so (is_remote_for caller g) (group_seen rows caller (Some i))

abbrev pub rule_body_refusal : RowLists → Caller → RuleForm → Option GroupRow → Option Refusal
rule_body_refusal rows caller form g = first_refusal (
    bad_part form
    ∷ unless_all GroupKind (is_remote_seen rows caller g)
    (option_to_list (value_of form.remote_group_id))
    ∷ [])

abbrev pub rule_exists : RuleRow → Refusal
rule_exists r = Exists RuleKind r.id

abbrev pub rule_creation_refusal : SettingsParts → RowLists → Caller → GroupRow → RuleRow
    → Option Refusal
rule_creation_refusal settings rows caller g r = first_refusal (
    owner_only caller g.project
    ∷ option_map rule_exists (equal_rule rows.rules r)
    ∷ over_quota settings rows g.project RuleKind
    ∷ [])

abbrev pub rule_added : Caller → RowLists → RuleRow → Outcome
rule_added caller rows r =
    accepted rows (Add (Rule r) ∷ []) (λ after. NewRow (rule_shown after caller r []))

abbrev pub rule_created : SettingsParts → State → Caller → RuleForm → Outcome
rule_created settings state caller form =
    let group : Option GroupRow = group_seen state.rows caller (value_of form.security_group_id) in
    unless (rule_body_refusal state.rows caller form group)
    (needing (not_found GroupKind (text_of (value_of form.security_group_id))) group (λ g.
    unless (rule_creation_refusal settings state.rows caller g (new_rule form g no_id))
    (needing CountersSpent (drawing_at state g.project 1) (λ drawing.
    rule_added caller drawing.rows (new_rule form g (drawn_id drawing 0))))))

-- taking a rule out

abbrev pub rule_deletion_refusal : State → Caller → RuleRow → Option Refusal
rule_deletion_refusal state caller r = first_refusal (
    owner_only caller r.project
    ∷ when (is_last state) CountersSpent
    ∷ [])

abbrev pub rule_deleted : State → Caller → IdText → Outcome
rule_deleted state caller name =
    needing (not_found RuleKind name.text) (rule_seen state.rows caller name.id) (λ r.
    unless (rule_deletion_refusal state caller r)
    (accepted state.rows (Drop RuleKind r.id ∷ []) (λ rows. NoRow)))
