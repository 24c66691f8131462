-- No tags are tags.
use Rattle.std.proofs.Common.{[], arith}
use Rattle.std.proofs.lemmas.Option.{none-some}
use Rattle.plane_types.specs.NewTags.{AreTags}

pub no_tags : AreTags []
no_tags = record {
  first = λ i x h. absurd (none-some x h);
  last = λ i x h. absurd (none-some x h);
  differ = λ tag. omega arith;
}
