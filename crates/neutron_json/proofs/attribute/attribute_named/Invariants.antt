use Rattle.std.proofs.Common.{◌≡◌, drop, map}
use Rattle.neutron_json.specs.Attributes.{attribute_of, attribute_named}
use Rattle.neutron_json.proofs.attribute.attribute_named.Given as goal

-- the answer is that for the attributes that are left
abbrev pub invariant-loop-attribute : goal.invariant-loop-attribute
invariant-loop-attribute l = attribute_named l.name (map attribute_of (drop l.attribute-index l.attributes)) ≡ attribute_named l.name (map attribute_of l.attributes)
