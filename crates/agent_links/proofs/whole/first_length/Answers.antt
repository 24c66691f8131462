use Rattle.std.proofs.Common.{◌≡◌, List, get_or, sym, ap, ◌∙◌, true, ℕ, codes}
use Rattle.std.proofs.lemmas.List.{get_or_default}
use Rattle.httparse.specs.declared.spans.HeaderSpan.{HeaderSpan}
use Rattle.httparse.specs.Spans.{header_bytes}
use Rattle.http_heads.specs.Words.{same_word}
use Rattle.http_heads.proofs.NamedLemmas.{first_value}
use Rattle.agent_links.proofs.whole.first_length.Goals as goal

pub returns-then-is_length-clause-some : goal.returns-then-is_length-clause-some
returns-then-is_length-clause-some c =
    let hs = c.args.fields.now in
    let i = c.loop-field.field-index in
    let none : HeaderSpan = record { name = record { start = 0; end = 0 }; value = record { start = 0; end = 0 } } in
    let h = get_or hs i none in
    let named : same_word (header_bytes c.args.bytes.now h).0 (codes "content-length") ≡ true =
    ap (λ (l : List ℕ). same_word l (codes "content-length")) (sym c.of.ensures) ∙ sym c.if-is_length.ensures in
    first_value (header_bytes c.args.bytes.now) (codes "content-length") hs i h c.loop-field-test.true (get_or_default hs i none h c.loop-field-test.true) c.loop-field.invariant named
