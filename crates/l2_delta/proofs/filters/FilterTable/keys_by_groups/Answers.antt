use Rattle.std.proofs.Common.{◌≡◌, ◌∙◌, ◌++◌, ◌-◌, [], List, ℕ, ap, arith, drop, get_or, map}
use Rattle.std.proofs.lemmas.List.{get_or_read}
use Rattle.api_types.specs.declared.group.GroupRow.{GroupRow}
use Rattle.plane_types.specs.Keyed.{chunks, under}
use Rattle.plane_types.specs.KeyedTables.{group_filters}
use Rattle.plane_types.specs.Numbered.{with_numbers}
use Rattle.plane_types.specs.NumberedRows.{numbered_rows}
use Rattle.plane_types.specs.declared.table.FilterRow.{FilterRow}
use Rattle.table_edits.specs.ChunksSeen.{chunk_at}
use Rattle.table_edits.specs.NumbersSeen.{Renumbered, at_before}
use Rattle.l2_delta.specs.Gathered.{gathered, piece_at}
use Rattle.l2_delta.proofs.CoveredFilters.{chunk_piece, groups_before}
use Rattle.l2_delta.proofs.GatherLemmas.{map_more, one_more}
use Rattle.l2_delta.proofs.filters.FilterTable.keys_by_groups.Goals as goal

pub loop-left-preserved : goal.loop-left-preserved
loop-left-preserved c =
    let table = c.args.self.now in
    let n = numbered_rows table.change.now.before.now in
    let port = c.args.port.now in
    let places = c.in_ok-places.places.items in
    let left = c.loop-left.left in
    let place = c.index.result.now in
    let is : place ≡ get_or places (left - 1) 0 = get_or_read places _ _ (omega (arith, c.loop-left-test.true, c.loop-left.invariant.within)) c.index.ensures 0 in
    let at = at_before table.groups.now in
    let found : List ℕ → List ((ℕ × ℕ) × FilterRow) = gathered at (λ k g. under k (group_filters n port g)) in
    let key : (ℕ × ℕ) × FilterRow → ℕ × ℕ = λ x. x.0 in
    let last = under place (chunk_at (group_filters n port) (at place)) in
    record {
      within = omega (arith, c.loop-left.invariant.within);
      added = one_more (λ ks. map key (found ks)) places left [] c.loop-left.keys.items c.add_keys_at.new.keys.items (map key last)
          (omega (arith, c.loop-left-test.true)) c.loop-left.invariant.within c.loop-left.invariant.added c.in_ok-add_keys_at.ensures
          (map_more key (found (drop left places)) last ∙ (λ j. map key (found (drop left places) ++ (chunk_piece (group_filters n port) place (at place) ∙ ap (λ k. piece_at (λ k x. under k (group_filters n port x)) k (at k)) is) j)));
    }

pub returns : goal.returns
returns c =
    let table = c.args.self.now in
    let n = numbered_rows table.change.now.before.now in
    let port = c.args.port.now in
    let places = c.in_ok-places.places.items in
    let found : List ℕ → List ((ℕ × ℕ) × FilterRow) = gathered (at_before table.groups.now) (λ k g. under k (group_filters n port g)) in
    let key : (ℕ × ℕ) × FilterRow → ℕ × ℕ = λ x. x.0 in
    let done : c.loop-left.left ≡ 0 = omega (arith, c.loop-left-test.false) in
    c.loop-left.invariant.added ∙ ap (λ k. map key (found (drop k places))) done
    ∙ ap (map key) (groups_before n port table.groups.now places c.in_ok-places.ensures ∙ ap (λ (m : Renumbered GroupRow). chunks (group_filters n port) (with_numbers 0 m.rows)) table.groups_are)
