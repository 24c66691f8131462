use Rattle.std.proofs.Common.{◌≡◌, ◌∙◌, ap, false, sym, true}
use Rattle.std.specs.Prelude.{◌||◌}
use Rattle.std.specs.List.{list_any}
use Rattle.net_addr.specs.Ordered.{whole_prefix}
use Rattle.api_types.specs.Consistent.Groups.{prefix_eq}
use Rattle.api_types.specs.declared.port.Fixed.{Fixed}
use Rattle.api_types.specs.declared.port.Pair.{Pair}
use Rattle.l2_delta.proofs.SetPorts.{gives_is, holds_prefix, pairs_prefix}
use Rattle.l2_delta.proofs.set_keys.gives.Goals as goal

pub returns-then-holds : goal.returns-then-holds
returns-then-holds c =
    let port = c.args.port.now in
    let p = c.args.prefix.now in
    let held : holds_prefix p port ≡ true = ap (list_any (λ (f : Fixed). prefix_eq (whole_prefix f.address) p)) (sym c.as_slice.ensures) ∙ (sym c.holds.ensures ∙ c.if-holds.true) in
    c.if-holds.true ∙ sym (ap (λ b. b || pairs_prefix p port) held)
    ∙ gives_is p c.args.group port (sym c.names_group.ensures ∙ c.if-names_group.true)

pub returns-else-holds : goal.returns-else-holds
returns-else-holds c =
    let port = c.args.port.now in
    let p = c.args.prefix.now in
    let held : holds_prefix p port ≡ false = ap (list_any (λ (f : Fixed). prefix_eq (whole_prefix f.address) p)) (sym c.as_slice.ensures) ∙ (sym c.holds.ensures ∙ c.if-holds.false) in
    let paired : c.pairs_with.result ≡ pairs_prefix p port = c.pairs_with.ensures ∙ ap (list_any (λ (x : Pair). prefix_eq x.prefix p)) c.as_slice-else-holds.ensures in
    paired ∙ sym (ap (λ b. b || pairs_prefix p port) held)
    ∙ gives_is p c.args.group port (sym c.names_group.ensures ∙ c.if-names_group.true)
