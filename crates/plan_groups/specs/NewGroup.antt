-- The edits that make a group: the group, and then its two rules.
use Rattle.api_types.specs.Ident.{Ident}
use Rattle.api_types.specs.Registration.{Drawing, drawn_id}
use Rattle.api_types.specs.declared.group.Ethertype.TheVariants.{Ipv4, Ipv6}
use Rattle.api_types.specs.declared.group.GroupRow.{GroupRow}
use Rattle.api_types.specs.declared.kind.Row.TheVariants.{Group, Rule}
use Rattle.call_parts.specs.Edits.{Add, Edit}
use Rattle.plan_groups.specs.GroupCalls.{egress_rule}
use Rattle.std.specs.Prelude.{List, [], ◌∷◌}

abbrev pub rule_edits : GroupRow → Ident → Ident → List Edit
rule_edits g four six =
    Add (Rule (egress_rule g Ipv4 four)) ∷ Add (Rule (egress_rule g Ipv6 six)) ∷ []

abbrev pub group_edits : GroupRow → Drawing → List Edit
group_edits g drawing = Add (Group g) ∷ rule_edits g (drawn_id drawing 1) (drawn_id drawing 2)
