use Rattle.std.proofs.Common.{◌≡◌, List, get_or, sym, ap, ◌∙◌, true, ℕ}
use Rattle.std.proofs.lemmas.List.{get_or_default}
use Rattle.httparse.specs.declared.spans.HeaderSpan.{HeaderSpan}
use Rattle.httparse.specs.Spans.{header_bytes}
use Rattle.http_heads.specs.Words.{same_word}
use Rattle.http_heads.proofs.NamedLemmas.{first_value}
use Rattle.http_heads.proofs.field_list.first_named.Goals as goal

pub returns-then-is_same_word-clause-some : goal.returns-then-is_same_word-clause-some
returns-then-is_same_word-clause-some c =
    let hs = c.args.fields.now in
    let i = c.loop-field.field-index in
    let none : HeaderSpan = record { name = record { start = 0; end = 0 }; value = record { start = 0; end = 0 } } in
    let h = get_or hs i none in
    let named : same_word (header_bytes c.args.prefix.now h).0 c.args.name.now ≡ true =
    ap (λ (l : List ℕ). same_word l c.args.name.now) (sym c.of.ensures) ∙ sym c.if-is_same_word.ensures in
    first_value (header_bytes c.args.prefix.now) c.args.name.now hs i h c.loop-field-test.true (get_or_default hs i none h c.loop-field-test.true) c.loop-field.invariant named
