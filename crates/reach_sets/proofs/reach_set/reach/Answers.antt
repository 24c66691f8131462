use Rattle.std.proofs.Common.{◌≡◌, Some, ap, sym, ◌∙◌, subst}
use Rattle.std.specs.Prelude.{option_map}
use Rattle.std.proofs.lemmas.Result.{IfOk-weaker}
use Rattle.plane_types.specs.Ends.{ends_of}
use Rattle.reach_sets.proofs.NamedLemmas.{pair-is, pair-rows}
use Rattle.reach_sets.specs.Named.{ends_if_same, with_ends}
use Rattle.reach_sets.specs.ReachSets.{IsReachSet}
use Rattle.reach_sets.specs.TwoPorts.{two_ports}
use Rattle.reach_sets.proofs.reach_set.reach.Goals as goal

pub find_set-requires-clause-rows : goal.find_set-requires-clause-rows
find_set-requires-clause-rows c =
    pair-rows c.args.rows.now c.args.from c.args.to (ends_if_same c.args.source c.args.destination) (two_ports c.in-Some.pair) (sym c.pair_of.ensures ∙ ap (option_map two_ports) c.in-Some.is)

pub returns : goal.returns
returns c = λ p q there too.
    let is : Some (two_ports c.in-Some.pair) ≡ Some (with_ends p q (ends_of c.args.source c.args.destination)) =
    sym (ap (option_map two_ports) c.in-Some.is) ∙ c.pair_of.ensures ∙ pair-is c.args.rows.now c.args.from c.args.to c.args.source c.args.destination p q there too c.requires.version in
    let same : two_ports c.in-Some.pair ≡ with_ends p q (ends_of c.args.source c.args.destination) = cc in
    IfOk-weaker c.find_set.result _ _ (λ s h. subst (λ y. IsReachSet c.args.rows.now y s) same h) c.find_set.ensures
