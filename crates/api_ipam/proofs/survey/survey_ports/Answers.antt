use Rattle.std.proofs.Common.{◌≡◌, ◌∙◌, ◌+◌, ◌<◌, ◌^◌, ◌∷◌, Bool, true, false, ap, arith, drop, length, refl, subst, sym}
use Rattle.std.specs.Prelude.{if◌then◌else◌, nat_lt, ◌&&◌, ◌||◌}
use Rattle.std.specs.List.{list_any}
use Rattle.std.proofs.lemmas.List.{at_drop_more}
use Rattle.std.proofs.lemmas.Option.{slice_get_read}
use Rattle.api_types.specs.Consistent.HeldOnce.{has_mac}
use Rattle.api_types.specs.HeldAddresses.{holds_address, is_address_held}
use Rattle.api_types.specs.Table.{ident_eq}
use Rattle.api_types.specs.declared.port.PortRow.{PortRow}
use Rattle.api_ipam.specs.FixedChoice.{is_in}
use Rattle.api_ipam.specs.MacChoice.{first_mac}
use Rattle.api_ipam.proofs.LeastLemmas.{none_after, none_more, past_next, sought}
use Rattle.api_ipam.proofs.survey.survey_ports.Goals as goal

or_last : (old here left : Bool) → ((old || here) || left) ≡ (old || (here || left))
or_last true here left = refl
or_last false here left = refl

-- a port adds its addresses; if it has the next MAC address it moves it on, and its own may be the greatest
pub loop-shared-preserved : goal.loop-shared-preserved
loop-shared-preserved c =
    let ports = c.args.ports.now in
    let network = c.args.network in
    let end = first_mac + 2 ^ 24 in
    let p = c.shared-item.result in
    let k = c.loop-shared.shared-index in
    let next = c.loop-shared.next in
    let greatest = c.loop-shared.greatest in
    let within : k < length ports = omega arith in
    let moved = c.after_held-next.ensures ∙ ap (λ (q : PortRow). if has_mac network next q then next + 1 else next) c.get-port.ensures in
    let most = c.greatest_of-greatest.ensures ∙ ap (λ (q : PortRow). if ident_eq network q.network && nat_lt greatest q.mac then q.mac else greatest) c.get-port.ensures in
    record {
      all = λ x.
          let so_far = is_in c.loop-shared.held x in
          let left = is_address_held (drop (k + 1) ports) network x in
          let here = at_drop_more (list_any (holds_address network x)) ports k p within ∙ ap (λ (q : PortRow). list_any (holds_address network x) (q ∷ drop (k + 1) ports)) (sym c.shared-item.is) in
          ap (λ b. b || left) (c.in_ok-take_port.ensures x ∙ ap (λ (q : PortRow). so_far || holds_address network x q) c.get-port.ensures)
          ∙ or_last so_far (holds_address network x p) left
          ∙ ap (λ b. so_far || b) (sym here)
          ∙ c.loop-shared.invariant.all x;
      same = ap (sought ports network end) moved ∙ (past_next ports network end next k p (slice_get_read ports (length ports) k p refl within c.shared-item.is) ∙ c.loop-shared.invariant.same);
      none = λ m less.
          let after = none_after network p greatest m (subst (λ n. n < m) most less) in
          none_more ports network end m k p within c.shared-item.is after.1 ∙ c.loop-shared.invariant.none m after.0;
    }
