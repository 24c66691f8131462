use Rattle.std.proofs.Common.{◌∙◌, sym}
use Rattle.net_addr.specs.Spelling.{prefix_text}
use Rattle.wire_text.proofs.LeafLemmas.{prefix_found, prefix_there, text_same}
use Rattle.wire_text.proofs.word.PrefixFromJson.from_json.Goals as goal

pub returns-in-Ok-clause-reads : goal.returns-in-Ok-clause-reads
returns-in-Ok-clause-reads c x fits same =
    prefix_found c.as_bytes.result.now x c.prefix.result c.in-Ok.cidr fits
    (c.as_bytes.ensures.value ∙ text_same c.in_ok-read_word.field-0.now (prefix_text x) (sym c.in_ok-read_word.ensures.ok ∙ same)) c.in-Ok.ensures.only c.prefix.ensures

pub returns-in-Err-clause-reads : goal.returns-in-Err-clause-reads
returns-in-Err-clause-reads c x fits same =
    c.in-Err.ensures.refused (prefix_there c.as_bytes.result.now x fits
    (c.as_bytes.ensures.value ∙ text_same c.in_ok-read_word.field-0.now (prefix_text x) (sym c.in_ok-read_word.ensures.ok ∙ same)))
