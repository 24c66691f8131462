use Rattle.std.proofs.Common.{◌∙◌, List, ap, subst, sym}
use Rattle.std.specs.HashSet.{contains}
use Rattle.std.specs.List.{list_any}
use Rattle.api_types.specs.Parts.{network_of}
use Rattle.api_types.specs.RowLists.{RowLists}
use Rattle.api_types.specs.Table.{ident_eq, row_of}
use Rattle.api_types.specs.declared.kind.Kind.TheVariants.{Network}
use Rattle.api_types.specs.declared.network.NetworkRow.{NetworkRow}
use Rattle.api_types.proofs.ListLemmas.{or_none}
use Rattle.plane_types.specs.Numbered.{rows_after}
use Rattle.plane_types.specs.NumberedRows.{row_items}
use Rattle.plane_types.specs.TableRows.{tag_of}
use Rattle.plane_types.specs.declared.table.TagRow.{TagRow}
use Rattle.table_edits.specs.NumbersTold.{FitRows}
use Rattle.table_edits.proofs.KindsAfter.{networks_after, networks_fit}
use Rattle.touched_rows.specs.Retagged.{is_retagged}
use Rattle.touched_rows.specs.RowStays.{CarriesTheSame, RowStays}
use Rattle.touched_rows.proofs.AlikeLemmas.{stays_alike}
use Rattle.touched_rows.proofs.RetagLemmas.{tag_stays}
use Rattle.touched_rows.proofs.networks.touched_networks.Goals as goal

pub changed_ids-requires-clause-fits : goal.changed_ids-requires-clause-fits
changed_ids-requires-clause-fits c =
    let change = c.args.change.now in
    subst (λ (rs : List NetworkRow). FitRows (λ (r : NetworkRow). r.id) rs (row_items Network network_of change.items.now)) (sym c.networks-before.ensures) (networks_fit change.before.now change.items.now change.leads_on.fits)

pub changed_ids-requires-clause-leads : goal.changed_ids-requires-clause-leads
changed_ids-requires-clause-leads c =
    let change = c.args.change.now in
    c.networks-after.ensures
    ∙ ap (λ (r : RowLists). r.networks) change.leads_on.leads
    ∙ networks_after change.before.now change.items.now
    ∙ ap (λ (rs : List NetworkRow). rows_after rs (row_items Network network_of change.items.now)) (sym c.networks-before.ensures)

pub returns-then-are_tags : goal.returns-then-are_tags
returns-then-are_tags c = λ n away.
    let change = c.args.change.now in
    let stays = c.in_ok-networks.ensures n away in
    let told = c.are_tags.ensures.0 c.if-are_tags.true in
    stays_alike change.before.now change.after.now change.old change.new n
    (subst (λ (rs : List NetworkRow). RowStays CarriesTheSame (row_of (λ (r : NetworkRow). r.id) n rs) (row_of (λ (r : NetworkRow). r.id) n change.after.now.networks)) c.networks-before.ensures
    (subst (λ (rs : List NetworkRow). RowStays CarriesTheSame (row_of (λ (r : NetworkRow). r.id) n c.networks-before.result.now) (row_of (λ (r : NetworkRow). r.id) n rs)) c.networks-after.ensures stays))
    (ap (λ (ts : List TagRow). tag_of ts n) (change.had ∙ sym c.tags.ensures ∙ told ∙ sym c.requires))

pub returns : goal.returns
returns c = λ n away.
    let change = c.args.change.now in
    let differs = is_retagged change.old change.new n in
    let last = or_none _ (list_any differs c.args.tags.now) (sym (c.in_ok-add_retagged-2.ensures n) ∙ away) in
    let first = or_none (contains ident_eq c.in_ok-networks.networks n) (list_any differs c.tags-2.result.now) (sym (c.in_ok-add_retagged.ensures n) ∙ last.0) in
    let stays = c.in_ok-networks.ensures n first.0 in
    stays_alike change.before.now change.after.now change.old change.new n
    (subst (λ (rs : List NetworkRow). RowStays CarriesTheSame (row_of (λ (r : NetworkRow). r.id) n rs) (row_of (λ (r : NetworkRow). r.id) n change.after.now.networks)) c.networks-before.ensures
    (subst (λ (rs : List NetworkRow). RowStays CarriesTheSame (row_of (λ (r : NetworkRow). r.id) n c.networks-before.result.now) (row_of (λ (r : NetworkRow). r.id) n rs)) c.networks-after.ensures stays))
    (tag_stays change.old change.new n (ap (list_any differs) (change.had ∙ sym c.tags-2.ensures) ∙ first.1) (ap (list_any differs) c.requires ∙ last.1))
