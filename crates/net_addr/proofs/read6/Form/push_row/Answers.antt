use Rattle.std.proofs.Common.{◌++◌, List, ap, ◌∙◌, arith}
use Rattle.net_addr.specs.declared.spelling.Part.{Part}
use Rattle.net_addr.proofs.FormLemmas.{row_front}
use Rattle.net_addr.proofs.read6.Form.push_row.Goals as goal

pub returns : goal.returns
returns c =
    c.push_all.ensures
    ∙ ap (λ (ps : List Part). c.args.self.now ++ ps)
    (row_front c.args.count c.saturating_sub-len.result (omega (arith, c.saturating_sub-len.ensures, c.from.ensures)) c.requires.few)
