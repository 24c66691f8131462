use Rattle.std.proofs.Common.{◌∙◌, ap₂, sym, subst, arith, slice_range}
use Rattle.http_heads.specs.Parts.{IsPartOf, IsPartOfOption, path_of, query_of}
use Rattle.http_heads.proofs.HeadLemmas.{project_is, admin_is}
use Rattle.http_heads.proofs.whole.parts_of.Goals as goal

pub returns : goal.returns
returns c = λ head at.
    let b = c.args.buffer.now in
    let w = c.requires.within in record {
      method = record {
        ordered = omega (arith, c.part_of.ensures.start, c.part_of.ensures.end, w.method.0);
        within = omega (arith, c.part_of.ensures.end, w.method.1, w.section.len_fits);
        covers = ap₂ (slice_range b) c.part_of.ensures.start c.part_of.ensures.end ∙ at.method;
      };
      path = subst (λ t. IsPartOf b c.cut_target.result.0 (path_of t)) at.path c.cut_target.ensures.path;
      query = subst (λ t. IsPartOf b c.cut_target.result.1 (query_of t)) at.path c.cut_target.ensures.query;
      project = subst (IsPartOfOption b c.project_part.result) (sym (project_is b c.args.fields.now c.args.spans.now head w at)) c.project_part.ensures;
      admin = c.any_lists.ensures ∙ sym (admin_is b c.args.fields.now c.args.spans.now head w at);
    }
