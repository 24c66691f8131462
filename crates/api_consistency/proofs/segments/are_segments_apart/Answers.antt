use Rattle.std.proofs.Common.{◌≤◌, ◌∙◌, List, ap, subst, length, arith}
use Rattle.std.specs.List.{IsDistinct, filter_map}
use Rattle.api_types.specs.declared.network.NetworkRow.{NetworkRow}
use Rattle.api_consistency.specs.Stretches.{meet}
use Rattle.api_consistency.specs.Keys.{of_segment}
use Rattle.api_consistency.proofs.KeyLemmas.{segments_once}
use Rattle.api_consistency.proofs.segments.are_segments_apart.Goals as goal

pub returns : goal.returns
returns c = λ h. record {
  apart = segments_once c.args.known.now.networks
      (subst (IsDistinct meet) (c.in_ok-segments.ensures ∙ ap (filter_map (λ (n : NetworkRow). of_segment n.segment)) c.networks-2.ensures) (c.are_apart.ensures h));
  few = subst (λ (ns : List NetworkRow). length ns ≤ 4000) c.networks.ensures (omega (arith, c.if-networks-gt4000.false));
}
