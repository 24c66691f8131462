use Rattle.std.proofs.Common.{◌∙◌, ap, subst, sym}
use Rattle.std.specs.Prelude.{nat_lt}
use Rattle.table_edits.specs.EditsAt.{KeysDescend, among}
use Rattle.dhcp_delta.proofs.delta.delta_of.Goals as goal

pub lease_edits-requires-clause-down : goal.lease_edits-requires-clause-down
lease_edits-requires-clause-down c =
    subst (KeysDescend nat_lt) (sym c.as_slice.ensures.value) c.in_ok-ports.ensures.down

pub lease_edits-requires-clause-stay : goal.lease_edits-requires-clause-stay
lease_edits-requires-clause-stay c = λ k off.
    c.in_ok-ports.ensures.named k (ap (among nat_lt k) (sym c.as_slice.ensures.value) ∙ off)

pub lease_edits-requires-clause-networks : goal.lease_edits-requires-clause-networks
lease_edits-requires-clause-networks c = λ k p off at can.
    c.in_ok-networks.ensures p.network
    (c.in_ok-ports.ensures.networks k p (ap (among nat_lt k) (sym c.as_slice.ensures.value) ∙ off) at can)
