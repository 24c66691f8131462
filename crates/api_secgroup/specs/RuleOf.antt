-- What a rule says of packets, as a row has it and as a form asks for it.
use Rattle.api_types.specs.Given.{value_of, value_or}
use Rattle.api_types.specs.Refusing.{first_refusal, when}
use Rattle.api_types.specs.Ident.{Ident}
use Rattle.api_types.specs.declared.form.RuleForm.{RuleForm}
use Rattle.api_types.specs.declared.group.Direction.TheVariants.{Ingress}
use Rattle.api_types.specs.declared.group.Ethertype.TheVariants.{Ipv4}
use Rattle.api_types.specs.declared.group.RuleRow.{RuleRow}
use Rattle.api_types.specs.declared.refusal.Refusal.TheVariants.{Invalid}
use Rattle.api_types.specs.declared.refusal.Refusal.{Refusal}
use Rattle.api_secgroup.specs.RuleParts.{is_bad_max, is_bad_min, is_bad_protocol, is_bad_remote}
use Rattle.api_secgroup.specs.declared.parts.RuleAttribute.TheVariants.{PortRangeMax, PortRangeMin, Protocol, RemoteGroupId, RemoteIpPrefix}
use Rattle.api_secgroup.specs.declared.parts.RuleAttribute.{RuleAttribute}
use Rattle.api_secgroup.specs.declared.parts.RuleParts.{RuleParts}
use Rattle.std.specs.Prelude.{Option, [], codes, is_some, ◌&&◌, ◌∷◌}
use Rattle.net_addr.specs.Words.{Text}

abbrev pub parts_of : RuleRow → RuleParts
parts_of r = record {
  direction = r.direction;
  ethertype = r.ethertype;
  protocol = r.protocol;
  low = r.low;
  high = r.high;
  remote_prefix = r.remote_prefix;
  remote_group = r.remote_group;
}

abbrev pub parts_asked : RuleForm → RuleParts
parts_asked form = record {
  direction = value_or Ingress form.direction;
  ethertype = value_or Ipv4 form.ethertype;
  protocol = value_of form.protocol;
  low = value_of form.port_range_min;
  high = value_of form.port_range_max;
  remote_prefix = value_of form.remote_ip_prefix;
  remote_group = value_of form.remote_group_id;
}

-- a rule of a group and a project that says this, and no more; no row has its id
abbrev pub bare_rule : Ident → Text → RuleParts → RuleRow
bare_rule group project parts = record {
  id = record { ordinal = 0; count = 0 };
  project = project;
  group = group;
  description = [];
  direction = parts.direction;
  ethertype = parts.ethertype;
  protocol = parts.protocol;
  low = parts.low;
  high = parts.high;
  remote_prefix = parts.remote_prefix;
  remote_group = parts.remote_group;
}

-- the names of attributes in bodies
abbrev pub attribute_name : RuleAttribute → Text
attribute_name PortRangeMax = codes "port_range_max"
attribute_name PortRangeMin = codes "port_range_min"
attribute_name Protocol = codes "protocol"
attribute_name RemoteGroupId = codes "remote_group_id"
attribute_name RemoteIpPrefix = codes "remote_ip_prefix"

-- the first part, in byte order of the attributes, that others forbid
abbrev pub bad_in : RuleParts → Option Refusal
bad_in parts = first_refusal (
    when (is_bad_max parts.protocol parts.low parts.high) (Invalid (codes "port_range_max"))
    ∷ when (is_bad_min parts.protocol parts.low parts.high) (Invalid (codes "port_range_min"))
    ∷ when (is_bad_protocol parts.protocol parts.ethertype) (Invalid (codes "protocol"))
    ∷ when (is_some parts.remote_group && is_some parts.remote_prefix)
    (Invalid (codes "remote_group_id"))
    ∷ when (is_bad_remote parts.remote_prefix parts.ethertype) (Invalid (codes "remote_ip_prefix"))
    ∷ [])
