use Rattle.std.proofs.Common.{◌≡◌, ◌+◌, ◌-◌, Bool, not, true, false, sym, ap, ◌∙◌, arith, length, Some}
use Rattle.std.proofs.lemmas.Option.{slice_get-get_or}
use Rattle.api_types.specs.Least.{least_from}
use Rattle.api_ml2.specs.Numbers.{is_taken}
use Rattle.api_ml2.proofs.NumberLemmas.{least-past, least-here, least-none}
use Rattle.api_ml2.proofs.numbers.least_unmarked.Goals as goal

same_Some : (a b : Bool) → Some a ≡ Some b → a ≡ b
same_Some a b e = cc

pub returns-then-not-marks-i : goal.returns-then-not-marks-i
returns-then-not-marks-i c =
    let networks = c.args.networks.now in
    let i = c.loop-i.i in
    let many = length c.args.marks.now in
    let marked = same_Some _ _ (sym (slice_get-get_or c.args.marks.now i false c.loop-i-test.true) ∙ c.requires.marked i c.loop-i-test.true) in
    let free : not (is_taken networks (c.args.first + i)) ≡ true = ap not (sym marked ∙ c.if-not-marks-i.true) in
    sym (least-here (λ n. not (is_taken networks n)) (c.args.first + i) (many - i) (omega (arith, c.loop-i-test.true)) free) ∙ c.loop-i.invariant

pub loop-i-preserved : goal.loop-i-preserved
loop-i-preserved c =
    let networks = c.args.networks.now in
    let first = c.args.first in
    let i = c.loop-i.i in
    let many = length c.args.marks.now in
    let marked = same_Some _ _ (sym (slice_get-get_or c.args.marks.now i false c.loop-i-test.true) ∙ c.requires.marked i c.loop-i-test.true) in
    let taken : not (is_taken networks (first + i)) ≡ false = ap not (sym marked ∙ c.if-not-marks-i.false) in
    let next : first + (i + 1) ≡ first + i + 1 = omega arith in
    ap (λ k. least_from (λ n. not (is_taken networks n)) k (many - (i + 1))) next
    ∙ ap (λ k. least_from (λ n. not (is_taken networks n)) (first + i + 1) k) (omega arith)
    ∙ sym (least-past (λ n. not (is_taken networks n)) (first + i) (many - i) (omega (arith, c.loop-i-test.true)) taken) ∙ c.loop-i.invariant

pub returns : goal.returns
returns c =
    sym (least-none (λ n. not (is_taken c.args.networks.now n)) (c.args.first + c.loop-i.i) (length c.args.marks.now - c.loop-i.i) (omega (arith, c.loop-i-test.false))) ∙ c.loop-i.invariant
