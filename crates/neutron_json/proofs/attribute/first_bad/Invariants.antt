use Rattle.std.proofs.Common.{◌≡◌, map}
use Rattle.serde_json.specs.View.{members_view}
use Rattle.neutron_json.specs.Attributes.{attribute_of, first_bad}
use Rattle.neutron_json.proofs.attribute.first_bad.Given as goal

-- the answer is that for the members that are left
abbrev pub invariant-loop-name : goal.invariant-loop-name
invariant-loop-name l = first_bad l.edit (map attribute_of l.attributes) (members_view l.name-iterator) ≡ first_bad l.edit (map attribute_of l.attributes) (members_view l.object.entries)
