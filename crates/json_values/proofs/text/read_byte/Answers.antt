use Rattle.std.proofs.Common.{◌≡◌, ◌∙◌, true, sym, ap, arith, decimal}
use Rattle.std.specs.Str.{bytes_eq}
use Rattle.std.proofs.lemmas.Fmt.{parse-decimal}
use Rattle.std.proofs.lemmas.Slice.Eq.{bytes_eq-Decides}
use Rattle.json_values.proofs.AddressLemmas.{number_read, no_number}
use Rattle.json_values.proofs.text.read_byte.Goals as goal

pub returns-in_default : goal.returns-in_default
returns-in_default c =
    no_number 256 c.args.text.now (λ n less e. let p = parse-decimal 8 n c.args.text.now c.parse.result (omega arith) (omega arith) (sym e) c.parse.ensures.value.0 in absurd cc)

pub returns-then-eq : goal.returns-then-eq
returns-then-eq c =
    number_read 256 c.args.text.now c.in-Ok.number (omega arith) (omega arith)
    (sym c.format.ensures.text ∙ (bytes_eq-Decides c.format.result.now c.args.text.now).0 (sym c.eq.ensures ∙ c.if-eq.true))

pub returns-else-eq : goal.returns-else-eq
returns-else-eq c =
    no_number 256 c.args.text.now (λ n less e.
    let p = parse-decimal 8 n c.args.text.now c.parse.result (omega arith) (omega arith) (sym e) c.parse.ensures.value.0 in
    let same : n ≡ c.in-Ok.number = cc in
    let text : c.format.result.now ≡ c.args.text.now = c.format.ensures.text ∙ sym (ap decimal same) ∙ e in
    let equal : bytes_eq c.format.result.now c.args.text.now ≡ true = (bytes_eq-Decides c.format.result.now c.args.text.now).1 text in
    absurd cc)
