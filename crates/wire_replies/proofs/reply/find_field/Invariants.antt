use Rattle.std.proofs.Common.{◌≡◌, drop}
use Rattle.std.specs.Prelude.{map}
use Rattle.std.specs.List.{find}
use Rattle.httparse.specs.Spans.{header_bytes}
use Rattle.wire_replies.specs.Readings.{is_named}
use Rattle.wire_replies.proofs.reply.find_field.Given as goal

abbrev pub invariant-loop-field : goal.invariant-loop-field
invariant-loop-field l = find (is_named l.name) (map (header_bytes l.bytes) (drop l.field-index l.fields)) ≡ find (is_named l.name) (map (header_bytes l.bytes) l.fields)
