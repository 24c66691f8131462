use Rattle.std.proofs.Common.{◌≡◌, ◌∙◌, ◌<◌, ◌^◌, ◌↔◌, IsTrue, List, length, map, codes, is_some, ap, arith, subst, sym, true≢false}
use Rattle.std.specs.Str.{bytes_eq}
use Rattle.httparse.specs.Spans.{header_bytes, span_bytes}
use Rattle.neutron_http.specs.Replies.{Named}
use Rattle.wire_replies.specs.Readings.{IsWrittenBy, field_named, methods_in}
use Rattle.wire_replies.proofs.ReplyLemmas.{not_written, some_mapped, written_again}
use Rattle.wire_replies.proofs.reply.is_written.Goals as goal

pub returns-then-not-may_have : goal.returns-then-not-may_have
returns-then-not-may_have c =
    let fields : List Named = map (header_bytes c.args.bytes.now) c.args.fields.now in
    let small : length c.args.body.now < 2 ^ 64 = omega arith in
    let allow_here : c.in_ok-allow.allow ≡ methods_in (field_named (codes "Allow") fields) = c.in_ok-allow.ensures ∙ ap methods_in c.find_field-2.ensures.is in (
      λ e. absurd (true≢false (sym e)),
      λ w. absurd (not_written c.args.bytes.now c.args.code fields c.args.body.now c.requires.code small c.requires.reads c.in_ok-allow.allow allow_here (sym c.if-not-may_have.ensures) w),
    )

pub returns : goal.returns
returns c =
    let bytes = c.args.bytes.now in
    let fields : List Named = map (header_bytes bytes) c.args.fields.now in
    let small : length c.args.body.now < 2 ^ 64 = omega arith in
    let close_told : c.is_some-close.result ≡ is_some c.find_field.result = c.is_some-close.ensures in
    let close_here : c.is_some-close.result ≡ is_some (field_named (codes "Connection") fields) = close_told ∙ sym (some_mapped (span_bytes bytes) c.find_field.result) ∙ ap is_some c.find_field.ensures.is in
    let allow_here : c.in_ok-allow.allow ≡ methods_in (field_named (codes "Allow") fields) = c.in_ok-allow.ensures ∙ ap methods_in c.find_field-2.ensures.is in
    let lent : c.as_slice.result.now ≡ c.in_ok-again.again = c.as_slice.ensures in
    let same : c.eq.result ≡ bytes_eq c.in_ok-again.again bytes = c.eq.ensures ∙ ap (λ (l : List _). bytes_eq l bytes) lent in
    subst (λ b. IsTrue b ↔ IsWrittenBy bytes c.args.code c.args.body.now) (sym same)
    (written_again bytes c.args.code fields c.args.body.now c.requires.code small c.requires.reads c.is_some-close.result c.in_ok-allow.allow c.in_ok-again.again close_here allow_here
    (sym c.if-not-may_have.ensures) c.in_ok-again.ensures.bytes)
