use Rattle.json_trees.proofs.PrintedLemmas.{written}
use Rattle.reach_audit.specs.EventBodies.{body_tree}
use Rattle.reach_audit.proofs.event_body.print_event.Goals as goal

pub returns : goal.returns
returns c = written (body_tree c.args.event.now) _ _ c.in_ok-body_value.ensures c.in_ok-to_string.ensures.text
