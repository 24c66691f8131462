use Rattle.std.proofs.Common.{◌≡◌, ◌<◌, ◌^◌, drop}
use Rattle.std.specs.Str.Parse.{digits_value, digits_value_after}
use Rattle.http_heads.proofs.values.number.Given as goal

abbrev pub invariant-loop-b : goal.invariant-loop-b
invariant-loop-b l = record {
  rest : digits_value_after 10 l.n (drop l.b-index l.text) ≡ digits_value 10 l.text;
  small : l.n < 10 ^ l.b-index;
}
