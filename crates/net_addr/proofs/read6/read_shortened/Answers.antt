use Rattle.std.proofs.Common.{◌≡◌, ℕ, ◌+◌, ◌<◌, max, sym, subst, arith}
use Rattle.std.proofs.lemmas.Grind.{common_steps}
use Rattle.net_addr.specs.Reading.{NoneSoFar, SpellsBehind, SpellsShortened}
use Rattle.net_addr.specs.Spelling.{group_count}
use Rattle.net_addr.proofs.GrammarLemmas.{none_at_all, none_yet, one_more}
use Rattle.net_addr.proofs.Read6Lemmas.{some_groups, text_shortened}
use Rattle.net_addr.proofs.read6.read_shortened.Goals as goal

pub loop-left-init : goal.loop-left-init
loop-left-init c =
    let t = c.args.has_tail in
    let w = text_shortened t (some_groups t) in
    none_yet (λ left. SpellsBehind t left) (λ ts. (n : ℕ) × SpellsShortened t ts n) c.args.text.now w.0 w.1

pub returns-in-Ok : goal.returns-in-Ok
unfolding SpellsShortened
returns-in-Ok c =
    let l : c.loop-left.left < group_count c.args.has_tail = omega arith in
    (c.loop-left.left, l, c.in-Ok.ensures)

pub loop-left-preserved : goal.loop-left-preserved
unfolding SpellsShortened
loop-left-preserved c =
    let t = c.args.has_tail in
    let left = c.loop-left.left in
    let text = c.args.text.now in
    let l : left < group_count t = omega arith in
    let longer : c.max-at.result ≡ max c.loop-left.at c.in-Err.bad.at = grind (arith, common_steps) in
    subst (λ (at : ℕ). NoneSoFar (λ i. SpellsBehind t i) (λ ts. (n : ℕ) × SpellsShortened t ts n) (left + 1) text at) (sym longer)
    (one_more (λ i. SpellsBehind t i) (λ ts. (n : ℕ) × SpellsShortened t ts n) left text c.loop-left.at c.read_behind.result c.in-Err.bad c.in-Err.is
    (λ ts n s. (n, (left, l, s))) c.loop-left.invariant c.read_behind.ensures)

pub returns : goal.returns
unfolding SpellsShortened
returns c =
    let t = c.args.has_tail in
    none_at_all (λ i. SpellsBehind t i) (SpellsShortened t) c.loop-left.left c.args.text.now (record { at = c.loop-left.at })
    (λ ts n s. (s.0, omega (arith, s.1), s.2)) c.loop-left.invariant
