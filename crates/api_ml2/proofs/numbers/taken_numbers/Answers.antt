use Rattle.std.proofs.Common.{◌≡◌, suc, ◌+◌, ◌<◌, Bool, false, Some, length, take, ap, sym, ◌∙◌, get_or, arith}
use Rattle.std.specs.Prelude.{◌||◌, ◌++◌, ◌∷◌, []}
use Rattle.std.proofs.Math.Seq.{take-suc}
use Rattle.std.proofs.lemmas.Option.{slice_get-get_or}
use Rattle.api_types.specs.Consistent.Segments.{is_vxlan}
use Rattle.api_types.specs.declared.network.NetworkRow.{NetworkRow}
use Rattle.api_ml2.specs.Numbers.{is_taken}
use Rattle.api_ml2.proofs.NumberLemmas.{taken-push}
use Rattle.api_ml2.proofs.numbers.taken_numbers.Goals as goal

same_Some : (a b : Bool) → Some a ≡ Some b → a ≡ b
same_Some a b e = cc

pub loop-network-preserved : goal.loop-network-preserved
loop-network-preserved c =
    let networks = c.args.networks.now in
    let first = c.args.first in
    let i = c.loop-network.network-index in
    let network = c.network-item.result in
    let old = c.loop-network.marks.items in
    let step : take (i + 1) networks ≡ take i networks ++ network ∷ [] =
    (let next : i + 1 ≡ suc i = omega arith in ap (λ k. take k networks) next) ∙ take-suc networks i network c.loop-network-test.true ∙ ap (λ x. take i networks ++ x ∷ []) (sym c.network-item.is) in
    record {
      many = c.mark.ensures.length ∙ c.loop-network.invariant.many;
      marked = λ k within.
          let inside : k < length old = omega (arith, c.mark.ensures.length, within) in
          let was : get_or old k false ≡ is_taken (take i networks) (first + k) =
          same_Some _ _ (sym (slice_get-get_or old k false inside) ∙ c.loop-network.invariant.marked k inside) in
          c.mark.ensures.marked k inside
          ∙ ap (λ b. Some (b || is_vxlan (first + k) c.deref.result.now.segment)) was
          ∙ ap (λ (n : NetworkRow). Some (is_taken (take i networks) (first + k) || is_vxlan (first + k) n.segment)) c.deref.ensures
          ∙ ap Some (sym (taken-push (take i networks) network (first + k)) ∙ ap (λ ns. is_taken ns (first + k)) (sym step));
    }
