use Rattle.std.proofs.Common.{[], ap}
use Rattle.std.proofs.lemmas.Bool.{false≢true}
use Rattle.std.proofs.lemmas.Str.{is_utf8-from_IsUtf8}
use Rattle.net_settings.specs.Document.{at_key}
use Rattle.net_settings.proofs.NoDocument.{no_document}
use Rattle.net_settings.proofs.document.read_document.Goals as goal

pub returns-in-Ok-clause-ok : goal.returns-in-Ok-clause-ok
returns-in-Ok-clause-ok c =
    let utf8 = is_utf8-from_IsUtf8 c.args.bytes.now c.in-Ok.ensures.ok.0 in
    rw utf8 (ap (at_key []) c.in-Ok.ensures.ok.1)

pub returns-else-is_memory-clause-bad : goal.returns-else-is_memory-clause-bad
returns-else-is_memory-clause-bad c =
    rw c.new-key.ensures (no_document c.args.bytes.now (c.in-Err.ensures.refused (λ memory. false≢true (c.if-is_memory.ensures.1 memory))))
