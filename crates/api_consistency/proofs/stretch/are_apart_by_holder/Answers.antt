use Rattle.std.proofs.Common.{◌∙◌, ap, sym}
use Rattle.api_consistency.specs.Stretches.{follow, is_before_or_same}
use Rattle.api_consistency.proofs.StretchLemmas.{apart_by_holder}
use Rattle.api_consistency.proofs.stretch.are_apart_by_holder.Goals as goal

pub returns : goal.returns
returns c = λ h. apart_by_holder c.args.items.items c.sort_unstable.new.self.items c.sort_unstable.ensures.permutation
    (ap (follow is_before_or_same) (sym c.as_slice.ensures.value) ∙ (sym c.follow_or_again.ensures ∙ h))
