use Rattle.std.proofs.Common.{◌-◌, List, length, drop, map, subst, sym, take, ℕ}
use Rattle.std.proofs.lemmas.List.{take_rest}
use Rattle.std.proofs.lemmas.Result.{IfOk-weaker}
use Rattle.httparse.specs.Grammar.{HasNoResponse}
use Rattle.httparse.specs.Spans.{IsResponseOf, header_bytes}
use Rattle.neutron_http.specs.Replies.{Named}
use Rattle.wire_replies.specs.Readings.{IsReadAs}
use Rattle.wire_replies.proofs.ReplyLemmas.{not_so_many, not_there, whole_answer}
use Rattle.wire_replies.proofs.reply.read_reply.Goals as goal

pub returns-in-Ok-Complete : goal.returns-in-Ok-Complete
returns-in-Ok-Complete c =
    let bytes = c.args.bytes.now in
    let head = c.in-Ok-Complete.head in
    let spans = c.parse_response.new.headers in
    let fields : List Named = map (header_bytes bytes) (take head.headers spans) in
    let body : List ℕ = take (length bytes - head.len) (drop head.len bytes) in
    let at : IsResponseOf bytes spans head = rw c.in-Ok-Complete.field-0-is at c.in-Ok-Complete.ensures.complete in
    let all : IsReadAs bytes head.code fields (drop head.len bytes) = (at.0, at.1.reads, at.1.code, at.1.fields) in
    let reads : IsReadAs bytes head.code fields body = subst (IsReadAs bytes head.code fields) (sym (take_rest bytes head.len)) all in
    IfOk-weaker c.read_parts.result _ _ (λ o said. whole_answer bytes head.code fields body reads o said) c.read_parts.ensures

pub returns-in-Ok-Partial : goal.returns-in-Ok-Partial
returns-in-Ok-Partial c =
    let none : HasNoResponse c.args.bytes.now = rw c.in-Ok-Partial.field-0-is at c.in-Ok-Partial.ensures.partial in
    not_there c.args.bytes.now none

pub returns-in-Err : goal.returns-in-Err
returns-in-Err c = not_so_many c.args.bytes.now c.in-Err.ensures.no_room
