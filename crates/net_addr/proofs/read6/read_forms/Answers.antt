use Rattle.std.proofs.Common.{◌≡◌, ℕ, Result, sym, subst, ap₂, ◌∙◌}
use Rattle.net_addr.specs.Reading.{IsRead, better_of}
use Rattle.net_addr.specs.Spelling.{SpellsAddress6}
use Rattle.net_addr.specs.declared.spelling.BadAddress.{BadAddress}
use Rattle.net_addr.proofs.Read6Lemmas.{read_by_all}
use Rattle.net_addr.proofs.read6.read_forms.Goals as goal

pub returns : goal.returns
returns c =
    let e : c.better.result ≡ better_of (better_of c.read_whole.result c.read_shortened.result) (better_of c.read_whole-2.result c.read_shortened-2.result) =
    c.better.ensures ∙ ap₂ better_of c.better-groups.ensures c.better-tailed.ensures in
    subst (λ (x : Result ℕ BadAddress). IsRead SpellsAddress6 c.args.text.now x) (sym e)
    (read_by_all c.args.text.now c.read_whole.result c.read_shortened.result c.read_whole-2.result c.read_shortened-2.result
    c.read_whole.ensures c.read_shortened.ensures c.read_whole-2.ensures c.read_shortened-2.ensures)
