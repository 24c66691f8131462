use Rattle.std.proofs.Common.{◌≡◌, drop, map}
use Rattle.serde_json.specs.View.{view}
use Rattle.neutron_json.specs.Attributes.{attribute_of, first_missing}
use Rattle.neutron_json.proofs.attribute.first_missing.Given as goal

-- the answer is that for the attributes that are left
abbrev pub invariant-loop-attribute : goal.invariant-loop-attribute
invariant-loop-attribute l = first_missing (map attribute_of (drop l.attribute-index l.attributes)) (view l.object) ≡ first_missing (map attribute_of l.attributes) (view l.object)
