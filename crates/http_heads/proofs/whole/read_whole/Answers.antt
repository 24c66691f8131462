use Rattle.std.proofs.Common.{◌∙◌, sym, ap}
use Rattle.http_heads.specs.Fields.{own_refusal, length_told}
use Rattle.http_heads.proofs.HeadLemmas.{own_so, length_is, closes_is, refused_so, passed_so}
use Rattle.http_heads.proofs.whole.read_whole.Goals as goal

pub returns-in-Some : goal.returns-in-Some
returns-in-Some c = λ head at.
    let own = own_so c.args.buffer.now c.args.fields.now c.args.spans head c.requires.within at c.of.result.now c.is_with_length-needed.result c.count_named-coded.result c.body_length-told.result
    c.of.ensures c.is_with_length-needed.ensures c.count_named-coded.ensures c.body_length-told.ensures in
    refused_so c.args.buffer.now head c.in-Some.number (own_refusal head) (sym own ∙ sym c.refusal.ensures ∙ c.in-Some.is)

pub returns : goal.returns
returns c = λ head at.
    let own = own_so c.args.buffer.now c.args.fields.now c.args.spans head c.requires.within at c.of.result.now c.is_with_length-needed.result c.count_named-coded.result c.body_length-told.result
    c.of.ensures c.is_with_length-needed.ensures c.count_named-coded.ensures c.body_length-told.ensures in
    passed_so c.args.buffer.now head (own_refusal head) c.length_or_none.result c.args.spans.len c.is_last.result c.parts_of.result (sym own ∙ sym c.refusal.ensures ∙ c.in_default.is) (record {
      size = c.length_or_none.ensures ∙ ap length_told c.body_length-told.ensures ∙ sym (length_is c.args.buffer.now c.args.fields.now c.args.spans head c.requires.within at);
      start = at.len;
      closes_is = c.is_last.ensures ∙ sym (closes_is c.args.buffer.now c.args.fields.now c.args.spans head c.requires.within at);
      parts_are = c.parts_of.ensures head at;
    })
