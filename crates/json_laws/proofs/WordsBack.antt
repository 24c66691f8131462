-- Words, printed and read again.
use Rattle.std.proofs.Common.{ℕ, refl, codes}
use Rattle.serde_json.specs.Find.{as_bool}
use Rattle.api_types.specs.Printed.{number, truth, word}
use Rattle.api_types.specs.declared.form.IpVersion.{IpVersion}
use Rattle.api_types.specs.declared.form.IpVersion.TheVariants.{V4, V6}
use Rattle.api_types.specs.declared.form.ObjectType.TheVariants.{Network}
use Rattle.api_types.specs.declared.form.VnicType.TheVariants.{Normal}
use Rattle.api_types.specs.declared.form.NetworkType.TheVariants.{Local, Flat, Vlan, Vxlan}
use Rattle.api_types.specs.declared.group.Direction.TheVariants.{Ingress, Egress}
use Rattle.api_types.specs.declared.group.Ethertype.TheVariants.{Ipv4, Ipv6}
use Rattle.api_types.specs.declared.policy.Action.TheVariants.{Shared, External}
use Rattle.api_types.specs.declared.subnet.Ipv6Mode.TheVariants.{Slaac, Stateful, Stateless}
use Rattle.api_policy.specs.Groups.{direction_word, ethertype_word}
use Rattle.api_policy.specs.Policies.{action_word}
use Rattle.api_policy.specs.Subnets.{mode_word}
use Rattle.json_values.specs.Grammars.{action_of, direction_of, ethertype_of, ip_version, mode_of, network_type_of, object_type_of, vnic_type_of}
use Rattle.json_laws.specs.ReadBack.{IsReadBack, type_name}

pub flags : IsReadBack as_bool truth
flags d b e = refl

pub types : IsReadBack network_type_of (λ x. word (type_name x))
types d Local e = refl
types d Flat e = refl
types d Vlan e = refl
types d Vxlan e = refl

pub directions : IsReadBack direction_of (λ x. word (direction_word x))
directions d Ingress e = refl
directions d Egress e = refl

pub ethertypes : IsReadBack ethertype_of (λ x. word (ethertype_word x))
ethertypes d Ipv4 e = refl
ethertypes d Ipv6 e = refl

pub actions : IsReadBack action_of (λ x. word (action_word x))
actions d Shared e = refl
actions d External e = refl

-- a version, as it is written
abbrev pub version_digit : IpVersion → ℕ
version_digit V4 = 4
version_digit V6 = 6

pub versions : IsReadBack ip_version (λ v. number (version_digit v))
versions d V4 e = refl
versions d V6 e = refl

pub modes : IsReadBack mode_of mode_word
modes d Slaac e = refl
modes d Stateful e = refl
modes d Stateless e = refl

pub cards : IsReadBack vnic_type_of (λ v. word (codes "normal"))
cards d Normal e = refl

pub objects : IsReadBack object_type_of (λ v. word (codes "network"))
objects d Network e = refl
