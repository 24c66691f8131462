use Rattle.std.proofs.Common.{◌≡◌, ◌<◌, ◌^◌, drop}
use Rattle.std.specs.Str.Parse.{digits_value, digits_value_after}
use Rattle.command_lines.proofs.values.digits.Given as goal

abbrev pub invariant-loop-digit : goal.invariant-loop-digit
invariant-loop-digit l = record {
  rest : digits_value_after 10 l.number (drop l.digit-index l.text) ≡ digits_value 10 l.text;
  small : l.number < 10 ^ l.digit-index;
}
