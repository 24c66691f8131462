use Rattle.std.proofs.Common.{◌≡◌, take, [], codes}
use Rattle.std.specs.Prelude.{map}
use Rattle.httparse.specs.Spans.{header_bytes}
use Rattle.http_heads.specs.Fields.{values}
use Rattle.agent_links.proofs.whole.first_length.Given as goal

abbrev pub invariant-loop-field : goal.invariant-loop-field
invariant-loop-field l = values (codes "content-length") (map (header_bytes l.bytes) (take l.field-index l.fields)) ≡ []
