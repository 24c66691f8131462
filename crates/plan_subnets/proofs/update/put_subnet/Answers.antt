use Rattle.std.proofs.Common.{◌≡◌, ◌∙◌, ◌+◌, ap, arith, not}
use Rattle.std.specs.Prelude.{◌&&◌}
use Rattle.api_types.specs.HeldAddresses.{fixed_at}
use Rattle.api_types.specs.Ident.{Ident}
use Rattle.api_types.specs.Registration.{ident}
use Rattle.api_types.specs.RowLists.{RowLists}
use Rattle.api_types.specs.declared.kind.Row.TheVariants.{Subnet}
use Rattle.api_types.specs.declared.network.NetworkRow.{NetworkRow}
use Rattle.api_types.specs.declared.port.Fixed.{Fixed}
use Rattle.api_types.specs.declared.subnet.SubnetRow.{SubnetRow}
use Rattle.call_parts.specs.Edits.{made}
use Rattle.api_types.specs.WithRows.{with_put}
use Rattle.plan_subnets.specs.DhcpUpkeep.{begin_serving, end_serving}
use Rattle.plan_subnets.proofs.EditLemmas.{changed_with_port}
use Rattle.plan_subnets.proofs.update.put_subnet.Goals as goal

pub returns-clause-rows : goal.returns-clause-rows
returns-clause-rows c =
    let n : NetworkRow = c.args.network.now in
    let old : SubnetRow = c.args.old.now in
    let new : SubnetRow = c.args.new in
    let rows : RowLists = c.args.drawn.draft.rows in
    let one : RowLists = c.in_ok-draft.draft.rows in
    let two : RowLists = c.in_ok-draft-2.draft.rows in
    let three : RowLists = c.in_ok-draft-3.draft.rows in
    let i : Ident = ident c.args.drawn.ordinal (c.args.drawn.first + 0) in
    let f : Fixed = fixed_at new.id c.args.lease.now.address in
    let start : c.args.drawn.first ≡ c.args.drawn.first + 0 = omega arith in
    let put : one ≡ with_put rows (Subnet new) = c.in_ok-draft.ensures.rows ∙ ap (λ (s : SubnetRow). with_put rows (Subnet s)) c.in_ok-copy.ensures in
    let begun : two ≡ made one (begin_serving c.args.settings.now one n (new.dhcp && not old.dhcp) i c.args.lease.now.mac f) =
    c.in_ok-draft-2.ensures.rows ∙ (λ j. made one (begin_serving c.args.settings.now one n (c.begins.ensures j) (ident c.args.drawn.ordinal (start j)) c.args.lease.now.mac f)) in
    let ended : three ≡ made two (end_serving two n.id (old.dhcp && not new.dhcp) old.id) =
    c.in_ok-draft-3.ensures.rows ∙ (λ j. made two (end_serving two n.id (c.begins-ends.ensures j) old.id)) in
    changed_with_port c.args.settings.now rows n old new i c.args.lease.now.mac f one two three put begun ended
