use Rattle.std.proofs.Common.{◌≡◌, ◌∙◌, List, ℕ, ap, length, min, take, arith}
use Rattle.std.proofs.lemmas.Grind.{common_steps}
use Rattle.std.proofs.lemmas.List.{take_min}
use Rattle.httparse.specs.Grammar.{HasNoResponse}
use Rattle.httparse.specs.Spans.{IsResponseOf, IsResponseWithin}
use Rattle.agent_links.specs.Wholes.{head_limit}
use Rattle.agent_links.proofs.WholeLemmas.{found_length, found_none, too_many}
use Rattle.agent_links.proofs.whole.reply_length.Goals as goal

pub returns-in-Ok-Complete : goal.returns-in-Ok-Complete
returns-in-Ok-Complete c =
    let bytes = c.args.bytes.now in
    let front : List ℕ = take c.min.result bytes in
    let least : c.min.result ≡ min head_limit (length bytes) = grind (arith, common_steps) in
    let same : front ≡ take head_limit bytes = ap (λ n. take n bytes) least ∙ take_min head_limit bytes in
    let head = c.in-Ok-Complete.head in
    let spans = c.parse_response.new.headers in
    let within : IsResponseWithin front spans head = rw c.in-Ok-Complete.field-0-is at c.in-Ok-Complete.ensures.within in
    let at : IsResponseOf front spans head = rw c.in-Ok-Complete.field-0-is at c.in-Ok-Complete.ensures.complete in
    found_length bytes front same spans head c.body_length.result (omega arith) within at c.body_length.ensures

pub returns-in-Ok-Partial : goal.returns-in-Ok-Partial
returns-in-Ok-Partial c =
    let bytes = c.args.bytes.now in
    let front : List ℕ = take c.min.result bytes in
    let least : c.min.result ≡ min head_limit (length bytes) = grind (arith, common_steps) in
    let same : front ≡ take head_limit bytes = ap (λ n. take n bytes) least ∙ take_min head_limit bytes in
    let none : HasNoResponse front = rw c.in-Ok-Partial.field-0-is at c.in-Ok-Partial.ensures.partial in
    found_none bytes front same none

pub returns-in-Err : goal.returns-in-Err
returns-in-Err c =
    let bytes = c.args.bytes.now in
    let front : List ℕ = take c.min.result bytes in
    let least : c.min.result ≡ min head_limit (length bytes) = grind (arith, common_steps) in
    let same : front ≡ take head_limit bytes = ap (λ n. take n bytes) least ∙ take_min head_limit bytes in
    too_many bytes front same c.in-Err.ensures.no_room
