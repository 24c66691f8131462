use Rattle.std.proofs.Common.{◌≡◌, Some, ap, sym, ◌∙◌, subst}
use Rattle.std.specs.Prelude.{option_map}
use Rattle.std.proofs.lemmas.Result.{IfOk-weaker}
use Rattle.reach_sets.proofs.NamedLemmas.{named-rows}
use Rattle.reach_sets.specs.Judged.{JudgedBy}
use Rattle.reach_sets.specs.Named.{named}
use Rattle.reach_sets.specs.TwoPorts.{two_ports}
use Rattle.reach_sets.proofs.judgement.judge_table.Goals as goal

pub judge_pair-requires-clause-rows : goal.judge_pair-requires-clause-rows
judge_pair-requires-clause-rows c =
    let is : named c.args.rows.now c.args.wanted.now ≡ Some (two_ports c.in-Some.pair) = sym c.named.ensures ∙ ap (option_map two_ports) c.in-Some.is in
    named-rows c.args.rows.now c.args.wanted.now (two_ports c.in-Some.pair) is

pub returns : goal.returns
returns c =
    let is : named c.args.rows.now c.args.wanted.now ≡ Some (two_ports c.in-Some.pair) = sym c.named.ensures ∙ ap (option_map two_ports) c.in-Some.is in
    IfOk-weaker c.judge_pair.result _ _ (λ j h x there. let same : two_ports c.in-Some.pair ≡ x = cc in subst (λ y. JudgedBy c.args.rows.now y c.args.wanted.now j) same h) c.judge_pair.ensures
