use Rattle.std.proofs.Common.{◌∙◌, sym}
use Rattle.net_addr.specs.Spelling.{address_text}
use Rattle.wire_text.proofs.LeafLemmas.{four_found, four_there, text_same}
use Rattle.wire_text.proofs.word.Addr4FromJson.from_json.Goals as goal

pub returns-in-Ok-clause-reads : goal.returns-in-Ok-clause-reads
returns-in-Ok-clause-reads c x fits same =
    four_found c.as_bytes.result.now x c.in-Ok.address fits
    (c.as_bytes.ensures.value ∙ text_same c.in_ok-read_word.field-0.now (address_text x) (sym c.in_ok-read_word.ensures.ok ∙ same)) c.in-Ok.ensures.only

pub returns-in-Err-clause-reads : goal.returns-in-Err-clause-reads
returns-in-Err-clause-reads c x fits same =
    c.in-Err.ensures.refused (four_there c.as_bytes.result.now x fits
    (c.as_bytes.ensures.value ∙ text_same c.in_ok-read_word.field-0.now (address_text x) (sym c.in_ok-read_word.ensures.ok ∙ same)))
