use Rattle.std.proofs.Common.{◌∙◌, ap, sym}
use Rattle.http_heads.specs.Numbers.{is_number}
use Rattle.neutron_json.proofs.NumberLemmas.{parsed}
use Rattle.neutron_json.proofs.number.read_number.Goals as goal

pub returns-then-is_digits : goal.returns-then-is_digits
returns-then-is_digits c = c.ok.ensures.value ∙ parsed c.args.text.now c.parse.result (ap (is_number 20) (sym c.as_bytes.ensures.value) ∙ sym c.is_digits.ensures ∙ c.if-is_digits.true) c.parse.ensures.value.0
