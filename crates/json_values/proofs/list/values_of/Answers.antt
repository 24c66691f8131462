use Rattle.std.proofs.Common.{◌∙◌, sym, ap, map, Some, option_map}
use Rattle.serde_json.specs.View.{view}
use Rattle.json_values.specs.Values.{values_of}
use Rattle.json_values.proofs.ListLemmas.{values_back}
use Rattle.json_values.proofs.list.values_of.Goals as goal

pub returns-in-Some : goal.returns-in-Some
returns-in-Some c = ap (λ s. Some (map view s)) c.as_slice.ensures.value ∙ ap Some (sym (values_back (map view c.in-Some.values.now.items))) ∙ ap (option_map values_of) c.in-Some.ensures
