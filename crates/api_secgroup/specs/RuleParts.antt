-- The parts of a security group rule and the rules on them (Networking API v2.0, security group
-- rules).
use Rattle.api_types.specs.Given.{value_of, value_or}
use Rattle.api_types.specs.Refusing.{first_refusal, when}
use Rattle.api_types.specs.Consistent.Groups.{is_ethertype, same_rule}
use Rattle.api_types.specs.Ident.{Ident}
use Rattle.api_types.specs.Lists.{is_some_so}
use Rattle.api_types.specs.declared.form.RuleForm.{RuleForm}
use Rattle.api_types.specs.declared.group.Direction.TheVariants.{Ingress}
use Rattle.api_types.specs.declared.group.Ethertype.TheVariants.{Ipv4, Ipv6}
use Rattle.api_types.specs.declared.group.Ethertype.{Ethertype}
use Rattle.api_types.specs.declared.group.GroupRow.{GroupRow}
use Rattle.api_types.specs.declared.group.RuleRow.{RuleRow}
use Rattle.api_types.specs.declared.refusal.Refusal.TheVariants.{Invalid}
use Rattle.api_types.specs.declared.refusal.Refusal.{Refusal}
use Rattle.net_addr.specs.Addresses.{is_v4}
use Rattle.net_addr.specs.Prefixes.{Prefix}
use Rattle.std.specs.Prelude.{Bool, List, None, Option, Some, [], codes, cond, false, find, is_some, nat_le, nat_lt, not, true, ℕ, ◌&&◌, ◌==◌, ◌||◌, ◌∷◌}

-- protocols by their numbers (IANA)
-- (icmp and ipv6-icmp have a type and a code)
abbrev pub is_icmp : Option ℕ → Bool
is_icmp protocol = is_some_so (λ n. n == 1 || n == 58) protocol

abbrev pub has_ports : Option ℕ → Bool
has_ports protocol = is_some_so (λ n. n == 6 || n == 17) protocol

-- tcp and udp have both ends or none, from 1 on and in order; the named end is the missing one
abbrev pub is_bad_last_port : Option ℕ → Option ℕ → Bool
is_bad_last_port None last = false
is_bad_last_port (Some first) None = true
is_bad_last_port (Some first) (Some last) = nat_lt last 1 || (nat_le 1 first && nat_lt last first)

abbrev pub is_bad_first_port : Option ℕ → Option ℕ → Bool
is_bad_first_port None last = is_some last
is_bad_first_port (Some first) last = nat_lt first 1

-- icmp has a type and a code up to 255, and a code only with a type
abbrev pub is_bad_code : Option ℕ → Option ℕ → Bool
is_bad_code None code = false
is_bad_code (Some kind) code = is_some_so (λ n. nat_lt 255 n) code

abbrev pub is_bad_type : Option ℕ → Option ℕ → Bool
is_bad_type None code = is_some code
is_bad_type (Some kind) code = nat_lt 255 kind

-- other protocols, or none, have neither
abbrev pub is_bad_max : Option ℕ → Option ℕ → Option ℕ → Bool
is_bad_max protocol low high =
    cond (has_ports protocol) (is_bad_last_port low high)
    (cond (is_icmp protocol) (is_bad_code low high) (is_some high))

abbrev pub is_bad_min : Option ℕ → Option ℕ → Option ℕ → Bool
is_bad_min protocol low high =
    cond (has_ports protocol) (is_bad_first_port low high)
    (cond (is_icmp protocol) (is_bad_type low high) (is_some low))

-- ipv6-icmp is of version 6
abbrev pub is_bad_protocol : Option ℕ → Ethertype → Bool
is_bad_protocol protocol ethertype =
    is_some_so (λ n. n == 58) protocol && not (is_ethertype Ipv6 ethertype)

-- a prefix is of the version of the rule
abbrev pub is_bad_remote : Option Prefix → Ethertype → Bool
is_bad_remote prefix Ipv4 = is_some_so (λ (p : Prefix). not (is_v4 p.base)) prefix
is_bad_remote prefix Ipv6 = is_some_so (λ (p : Prefix). is_v4 p.base) prefix

-- in byte order of the attributes
abbrev pub bad_part : RuleForm → Option Refusal
bad_part form = first_refusal (
    when
    (is_bad_max (value_of form.protocol) (value_of form.port_range_min)
    (value_of form.port_range_max)) (Invalid (codes "port_range_max"))
    ∷ when
    (is_bad_min (value_of form.protocol) (value_of form.port_range_min)
    (value_of form.port_range_max)) (Invalid (codes "port_range_min"))
    ∷ when (is_bad_protocol (value_of form.protocol) (value_or Ipv4 form.ethertype))
    (Invalid (codes "protocol"))
    ∷ when (is_some (value_of form.remote_group_id) && is_some (value_of form.remote_ip_prefix))
    (Invalid (codes "remote_group_id"))
    ∷ when (is_bad_remote (value_of form.remote_ip_prefix) (value_or Ipv4 form.ethertype))
    (Invalid (codes "remote_ip_prefix"))
    ∷ [])

-- the row that a form makes, of a group and its project
abbrev pub new_rule : RuleForm → GroupRow → Ident → RuleRow
new_rule form g i = record {
  id = i;
  project = g.project;
  group = g.id;
  description = value_or [] form.description;
  direction = value_or Ingress form.direction;
  ethertype = value_or Ipv4 form.ethertype;
  protocol = value_of form.protocol;
  low = value_of form.port_range_min;
  high = value_of form.port_range_max;
  remote_prefix = value_of form.remote_ip_prefix;
  remote_group = value_of form.remote_group_id;
}

-- the rule of the group with equal parts
abbrev pub equal_rule : List RuleRow → RuleRow → Option RuleRow
equal_rule rules r = find (λ q. same_rule q r) rules
