use Rattle.std.proofs.Common.{◌∙◌, ap, sym}
use Rattle.api_consistency.specs.Stretches.{follow, is_before}
use Rattle.api_consistency.proofs.StretchLemmas.{apart}
use Rattle.api_consistency.proofs.stretch.are_apart.Goals as goal

pub returns : goal.returns
returns c = λ h. apart c.args.items.items c.sort_unstable.new.self.items c.sort_unstable.ensures.permutation
    (ap (follow is_before) (sym c.as_slice.ensures.value) ∙ (sym c.follow.ensures ∙ h))
