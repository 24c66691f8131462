use Rattle.std.proofs.Common.{◌≡◌, List, get_or, sym, ap, ◌∙◌, true, ℕ}
use Rattle.std.proofs.lemmas.List.{get_or_default}
use Rattle.httparse.specs.declared.spans.HeaderSpan.{HeaderSpan}
use Rattle.httparse.specs.Spans.{header_bytes}
use Rattle.http_heads.specs.Words.{same_word, has_word, blank_of}
use Rattle.http_heads.proofs.NamedLemmas.{any_there}
use Rattle.http_heads.proofs.field_list.any_lists.Goals as goal

pub returns-then-lists_word : goal.returns-then-lists_word
returns-then-lists_word c =
    let hs = c.args.fields.now in
    let i = c.loop-field.field-index in
    let none : HeaderSpan = record { name = record { start = 0; end = 0 }; value = record { start = 0; end = 0 } } in
    let h = get_or hs i none in
    let named : same_word (header_bytes c.args.prefix.now h).0 c.args.name.now ≡ true =
    ap (λ (l : List ℕ). same_word l c.args.name.now) (sym c.of.ensures) ∙ sym c.if-is_same_word.ensures in
    let passes : has_word (blank_of c.args.blank) c.args.word.now (header_bytes c.args.prefix.now h).1 ≡ true =
    ap (λ (l : List ℕ). has_word (blank_of c.args.blank) c.args.word.now l) (sym c.of-then-is_same_word.ensures) ∙ sym c.if-lists_word.ensures in
    sym (any_there (header_bytes c.args.prefix.now) c.args.name.now (has_word (blank_of c.args.blank) c.args.word.now) hs i h c.loop-field-test.true (get_or_default hs i none h c.loop-field-test.true) named passes)
