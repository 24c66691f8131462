use Rattle.std.proofs.Common.{rules, sym, ap, ◌∙◌}
use Rattle.std.proofs.lemmas.Grind.{common_steps}
use Rattle.keeper_core.proofs.PieceLemmas.{read_on, none_left}
use Rattle.keeper_core.proofs.memory_source.SureSourceSource.read.Goals as goal

pub returns-clause-bytes : goal.returns-clause-bytes
returns-clause-bytes c =
    let bytes = c.self.inside.bytes in
    let at = c.self.inside.at in (
      sym (ap (λ v. v.left) c.self.view_is) ∙ read_on bytes c.copy_front-count.new.buf _ at c.copy_front-count.result (search (rules, common_steps)) (search rules),
      λ zero nonempty. none_left bytes at c.copy_front-count.result (search (rules, common_steps)),
    )
