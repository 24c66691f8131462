use Rattle.serde_json.specs.View.{view}
use Rattle.neutron_json.proofs.JsonLemmas.{json_read, no_json}
use Rattle.neutron_json.proofs.frame.json_of.Goals as goal

pub returns-in-Ok : goal.returns-in-Ok
returns-in-Ok c = json_read c.args.body.now (view c.in-Ok.value) c.in-Ok.ensures.ok.0 c.in-Ok.ensures.ok.1

pub returns-else-is_memory : goal.returns-else-is_memory
returns-else-is_memory c = no_json c.args.body.now (c.in-Err.ensures.err (λ memory. let t = c.is_memory.ensures.1 memory in absurd cc))
