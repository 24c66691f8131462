use Rattle.std.proofs.Common.{◌≡◌, ◌≤◌, ◌∙◌, ℕ, List, true, false, length, get_or, option_map, map, arith, ap, sym}
use Rattle.std.specs.Str.{bytes_eq}
use Rattle.httparse.specs.declared.spans.HeaderSpan.{HeaderSpan}
use Rattle.httparse.specs.Spans.{header_bytes}
use Rattle.neutron_http.specs.Replies.{Named}
use Rattle.std.specs.List.{find}
use Rattle.wire_replies.specs.Readings.{is_named}
use Rattle.wire_replies.proofs.SearchLemmas.{found_here, found_nowhere, passed_over}
use Rattle.wire_replies.proofs.reply.find_field.Goals as goal

abbrev none : HeaderSpan
none = record { name = record { start = 0; end = 0 }; value = record { start = 0; end = 0 } }

pub returns-then-eq-clause-is : goal.returns-then-eq-clause-is
returns-then-eq-clause-is c =
    let b = c.args.bytes.now in
    let hs = c.args.fields.now in
    let i = c.loop-field.field-index in
    let named : is_named c.args.name.now (header_bytes b (get_or hs i none)) ≡ true = ap (λ (l : List ℕ). bytes_eq l c.args.name.now) (sym c.of.ensures) ∙ sym c.if-eq.ensures in
    ap (option_map (λ (f : Named). f.1)) (found_here (header_bytes b) (is_named c.args.name.now) hs i (find (is_named c.args.name.now) (map (header_bytes b) hs)) c.loop-field.invariant none c.loop-field-test.true named)

pub loop-field-preserved : goal.loop-field-preserved
loop-field-preserved c =
    let b = c.args.bytes.now in
    let hs = c.args.fields.now in
    let i = c.loop-field.field-index in
    let other : is_named c.args.name.now (header_bytes b (get_or hs i none)) ≡ false = ap (λ (l : List ℕ). bytes_eq l c.args.name.now) (sym c.of.ensures) ∙ sym c.if-eq.ensures in
    passed_over (header_bytes b) (is_named c.args.name.now) hs i (find (is_named c.args.name.now) (map (header_bytes b) hs)) c.loop-field.invariant none c.loop-field-test.true other

pub returns-clause-is : goal.returns-clause-is
returns-clause-is c =
    let b = c.args.bytes.now in
    let hs = c.args.fields.now in
    let i = c.loop-field.field-index in
    let over : length hs ≤ i = omega (arith, c.loop-field-test.false) in
    ap (option_map (λ (f : Named). f.1)) (found_nowhere (header_bytes b) (is_named c.args.name.now) hs i (find (is_named c.args.name.now) (map (header_bytes b) hs)) c.loop-field.invariant over)
