use Rattle.std.proofs.Common.{◌≡◌, ◌∙◌, ◌+◌, ◌<◌, ◌^◌, ap, arith, length, refl, subst}
use Rattle.std.specs.Prelude.{if◌then◌else◌, nat_lt, ◌&&◌}
use Rattle.std.proofs.lemmas.Option.{slice_get_read}
use Rattle.api_types.specs.Consistent.HeldOnce.{has_mac}
use Rattle.api_types.specs.Table.{ident_eq}
use Rattle.api_types.specs.declared.port.PortRow.{PortRow}
use Rattle.api_ipam.specs.MacChoice.{first_mac}
use Rattle.api_ipam.proofs.LeastLemmas.{none_after, none_more, past_next, sought}
use Rattle.api_ipam.proofs.macs.behind_held.Goals as goal

-- a port that has the next one moves it on, and its own may be the greatest
pub loop-shared-preserved : goal.loop-shared-preserved
loop-shared-preserved c =
    let ports = c.args.ports.now in
    let network = c.args.network in
    let end = first_mac + 2 ^ 24 in
    let p = c.shared-item.result in
    let k = c.loop-shared.shared-index in
    let next = c.loop-shared.next in
    let greatest = c.loop-shared.greatest in
    let within : k < length ports = omega arith in
    let moved = c.after_held-next.ensures ∙ ap (λ (q : PortRow). if has_mac network next q then next + 1 else next) c.get-port.ensures in
    let most = c.greatest_of-greatest.ensures ∙ ap (λ (q : PortRow). if ident_eq network q.network && nat_lt greatest q.mac then q.mac else greatest) c.get-port.ensures in
    record {
      same = ap (sought ports network end) moved ∙ (past_next ports network end next k p (slice_get_read ports (length ports) k p refl within c.shared-item.is) ∙ c.loop-shared.invariant.same);
      none = λ m less.
          let after = none_after network p greatest m (subst (λ n. n < m) most less) in
          none_more ports network end m k p within c.shared-item.is after.1 ∙ c.loop-shared.invariant.none m after.0;
    }
