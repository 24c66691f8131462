use Rattle.std.proofs.Common.{◌≡◌, ◌∙◌, Option, None, Some, ap, inr, refl}
use Rattle.std.specs.Option.{option_map}
use Rattle.api_types.proofs.ListLemmas.{none_some, some_equal}
use Rattle.api_types.specs.declared.refusal.Refusal.TheVariants.{NoHost}
use Rattle.plane_types.specs.Node.{Node}
use Rattle.plane_types.specs.declared.ask.LabAnswer.TheVariants.{Tables}
use Rattle.plane_types.specs.declared.lists.TableLists.{TableLists}
use Rattle.lab_world.specs.Hosts.{named_node}
use Rattle.lab_world.proofs.lab.tables_of.Goals as goal

there : (o : Option Node) (t : TableLists) → Some t ≡ option_map (λ (n : Node). n.agent.tables) o → (n : Node) × (o ≡ Some n) × (t ≡ n.agent.tables)
there None t h = absurd cc
there (Some n) t h = (n, refl, some_equal t n.agent.tables h)

nowhere : (o : Option Node) → None ≡ option_map (λ (n : Node). n.agent.tables) o → o ≡ None
nowhere None h = refl
nowhere (Some n) h = none_some n.agent.tables _ h

pub returns-in_ok-lists-in-Some-clause-ok : goal.returns-in_ok-lists-in-Some-clause-ok
returns-in_ok-lists-in-Some-clause-ok c =
    let found = there (named_node c.args.name.now c.args.hosts.now) c.in-Some.tables.now.lists c.in-Some.ensures in
    (found.0, found.1, ap Tables (c.in_ok-lists-in-Some.ensures ∙ found.2))

pub returns-in_ok-copy-in-None-clause-err : goal.returns-in_ok-copy-in-None-clause-err
returns-in_ok-copy-in-None-clause-err c = inr (ap NoHost c.in_ok-copy-in-None.ensures, nowhere (named_node c.args.name.now c.args.hosts.now) c.in-None.ensures)
