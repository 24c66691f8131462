use Rattle.std.proofs.Common.{◌≡◌, take, false}
use Rattle.std.specs.Prelude.{map}
use Rattle.std.specs.List.{list_any}
use Rattle.httparse.specs.Spans.{header_bytes}
use Rattle.http_heads.specs.Fields.{values}
use Rattle.http_heads.specs.Words.{has_word, blank_of}
use Rattle.http_heads.proofs.field_list.any_lists.Given as goal

abbrev pub invariant-loop-field : goal.invariant-loop-field
invariant-loop-field l = list_any (has_word (blank_of l.blank) l.word) (values l.name (map (header_bytes l.prefix) (take l.field-index l.fields))) ≡ false
