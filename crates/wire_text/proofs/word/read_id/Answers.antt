use Rattle.std.proofs.Common.{◌∙◌, Some, ap, sym, true≢false}
use Rattle.api_types.specs.Ident.{uuid_bytes}
use Rattle.wire_text.proofs.LeafLemmas.{id_found, id_parsed}
use Rattle.wire_text.proofs.word.read_id.Goals as goal

pub returns-in_default : goal.returns-in_default
returns-in_default c i fits is = absurd (true≢false (sym (c.in_default.ensures.ok.1 (uuid_bytes i, id_parsed i c.args.text.now is))))

pub returns : goal.returns
returns c i fits is =
    ap Some (c.make.ensures
    ∙ id_found i c.args.text.now c.in-Ok.uuid c.as_u64_pair-high.result.0 c.as_u64_pair-high.result.1 fits is c.in-Ok.ensures.bytes c.as_u64_pair-high.ensures.high c.as_u64_pair-high.ensures.low)
