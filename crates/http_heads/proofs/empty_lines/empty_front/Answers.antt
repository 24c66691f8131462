use Rattle.std.proofs.Common.{◌∙◌, ◌≡◌, ◌-◌, [], sym, ap, subst, arith, length, length-drop, take, drop}
use Rattle.std.proofs.lemmas.List.{take_rest}
use Rattle.http_heads.specs.Lines.{behind_blank}
use Rattle.http_heads.proofs.EmptyFronts.{one_more, rest_is}
use Rattle.http_heads.proofs.empty_lines.empty_front.Goals as goal

pub returns-then-count-eq0-clause-rest : goal.returns-then-count-eq0-clause-rest
returns-then-count-eq0-clause-rest c =
    let bytes = c.args.bytes.now in
    let same : behind_blank (drop c.lines.at bytes) ≡ drop c.lines.at bytes = subst (λ l. behind_blank l ≡ l) (take_rest bytes c.lines.at) (c.empty_line-count.ensures.none c.if-count-eq0.true) in
    sym same ∙ rest_is bytes c.lines.at c.lines.invariant.blank

pub lines-preserved : goal.lines-preserved
lines-preserved c =
    let bytes = c.args.bytes.now in
    let rest : take (length bytes - c.lines.at) (drop c.lines.at bytes) ≡ drop c.lines.at bytes = take_rest bytes c.lines.at in
    record {
      at = omega (arith, c.empty_line-count.ensures.within, ap length rest, length-drop c.lines.at bytes, c.lines.invariant.at);
      blank = one_more bytes c.lines.at c.empty_line-count.result c.lines.invariant.blank (subst (λ l. behind_blank (take c.empty_line-count.result l) ≡ []) rest c.empty_line-count.ensures.blank);
    }
