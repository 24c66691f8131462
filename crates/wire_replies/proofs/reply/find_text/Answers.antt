use Rattle.std.proofs.Common.{◌≤◌, ◌∙◌, Bor, List, ℕ, length, map, ap, arith, sym}
use Rattle.std.specs.List.{find}
use Rattle.std.specs.Str.{bytes_eq}
use Rattle.wire_replies.specs.Readings.{is_text}
use Rattle.wire_replies.proofs.SearchLemmas.{found_here, found_nowhere, passed_over}
use Rattle.wire_replies.proofs.reply.find_text.Goals as goal

abbrev shown : Bor (List ℕ) → List ℕ
shown s = s.now

pub returns-then-eq : goal.returns-then-eq
returns-then-eq c =
    let v = c.args.value.now in
    let texts = c.args.texts.now in
    found_here shown (is_text v) texts c.loop-text.text-index (find (is_text v) (map shown texts)) c.loop-text.invariant _ c.loop-text-test.true
    (ap (λ (l : List ℕ). bytes_eq l v) (sym c.as_bytes.ensures.value) ∙ sym c.if-eq.ensures)

pub loop-text-preserved : goal.loop-text-preserved
loop-text-preserved c =
    let v = c.args.value.now in
    let texts = c.args.texts.now in
    passed_over shown (is_text v) texts c.loop-text.text-index (find (is_text v) (map shown texts)) c.loop-text.invariant _ c.loop-text-test.true
    (ap (λ (l : List ℕ). bytes_eq l v) (sym c.as_bytes.ensures.value) ∙ sym c.if-eq.ensures)

pub returns : goal.returns
returns c =
    let v = c.args.value.now in
    let texts = c.args.texts.now in
    let over : length texts ≤ c.loop-text.text-index = omega (arith, c.loop-text-test.false) in
    found_nowhere shown (is_text v) texts c.loop-text.text-index (find (is_text v) (map shown texts)) c.loop-text.invariant over
