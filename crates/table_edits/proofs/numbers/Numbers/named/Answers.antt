use Rattle.std.proofs.Common.{◌≡◌, ◌∙◌, ap, false, subst, sym}
use Rattle.std.specs.Prelude.{◌==◌}
use Rattle.std.specs.List.{list_any}
use Rattle.table_edits.specs.NumbersSeen.{at_after, at_before}
use Rattle.table_edits.proofs.numbers.Numbers.named.Goals as goal

pub returns : goal.returns
returns g c = λ k none.
    let away = c.self.invariant.names k (subst (λ ns. list_any (λ m. m == k) ns ≡ false) c.as_slice.ensures.value none) in
    ap (λ m. at_before m k) (sym c.self.view_is) ∙ c.self.invariant.stays k away ∙ ap (λ m. at_after m k) c.self.view_is
