use Rattle.std.proofs.Common.{◌≡◌, ◌∙◌, sym}
use Rattle.std.specs.Prelude.{IfOk, nat_lt}
use Rattle.std.proofs.Math.Path.{transport}
use Rattle.plane_types.specs.KeyedTables.{keyed_leases}
use Rattle.plane_types.specs.NewTags.{new_tags}
use Rattle.plane_types.specs.NumberedRows.{numbered_rows, numbered_rows_after}
use Rattle.plane_types.specs.TableRows.{lease_rows}
use Rattle.table_edits.specs.Rewires.{Rewires}
use Rattle.dhcp_delta.proofs.delta.leases_delta.Goals as goal

pub delta_of-requires : goal.delta_of-requires
delta_of-requires c =
    let change = c.in_ok-change.change in
    let is = c.in_ok-change.ensures in
    change.given
    ∙ (λ j. new_tags (is.after j) (is.host j) (is.tables j).lists.tags)
    ∙ sym c.requires.tags ∙ sym c.as_slice.ensures

pub returns : goal.returns
returns c =
    let change = c.in_ok-change.change in
    let is = c.in_ok-change.ensures in
    let old : change.old ≡ c.args.tables.now.lists.tags = change.had ∙ (λ j. (is.tables j).lists.tags) in
    let new : change.new ≡ c.args.tags.now =
    change.given ∙ (λ j. new_tags (is.after j) (is.host j) (is.tables j).lists.tags) ∙ sym c.requires.tags in
    transport
    (λ j. IfOk c.delta_of.result (λ d. Rewires nat_lt
    (keyed_leases (numbered_rows (is.before j)) (is.host j) (old j))
    (keyed_leases (numbered_rows_after (is.before j) (is.items j)) (is.host j) (new j))
    (is.tables j).lists.leases (lease_rows (is.after j) (is.host j) (new j)) d.leases))
    c.delta_of.ensures
