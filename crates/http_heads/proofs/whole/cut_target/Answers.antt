use Rattle.std.proofs.Common.{◌∙◌, ap, arith, drop, ◌+◌}
use Rattle.std.specs.List.{position_or_len}
use Rattle.httparse.specs.Spans.{span_bytes}
use Rattle.http_heads.specs.Parts.{is_question_mark}
use Rattle.http_heads.proofs.PartLemmas.{back_part}
use Rattle.http_heads.proofs.whole.cut_target.Goals as goal

pub returns-clause-query : goal.returns-clause-query
returns-clause-query c =
    let t = c.args.target in
    let b = c.args.prefix.now in record {
      ordered = omega (arith, c.min.ensures);
      within = c.requires.1;
      covers = back_part b t.start t.end c.question_mark.result c.min.result c.requires.0 c.requires.1 c.min.ensures
          ∙ ap (λ k. drop (k + 1) (span_bytes b t)) (c.question_mark.ensures.is ∙ ap (position_or_len is_question_mark) c.of.ensures);
    }
