use Rattle.std.proofs.Common.{◌≡◌, ◌∙◌, None, Some, ap, not, of_calls, rules, slice_get, sym}
use Rattle.std.specs.Prelude.{option_copied}
use Rattle.std.proofs.lemmas.List.Sorted.{IsPartitionPoint-from_clause}
use Rattle.table_edits.specs.EditsAt.{among}
use Rattle.table_edits.proofs.DescendLemmas.{found_among, is_over, is_there}
use Rattle.table_edits.proofs.PlaceLemmas.{got_at}
use Rattle.table_edits.proofs.keys.is_among.Goals as goal

pub returns-in-Some : goal.returns-in-Some
returns-in-Some g c =
    let before = g.K.TableKey.before in
    let order = g.met.K.TableKey.total in
    let keys = c.args.keys.now in
    let key = c.args.key.now in
    let place = c.partition_point-place.result in
    let there : is_there before order key (slice_get keys place) ≡ among before key keys =
    found_among before order key keys c.requires place
    (λ ok. IsPartitionPoint-from_clause (is_over before order key) keys place c.partition_point-place.ensures.partitioned ok (λ a r q k. search (rules, of_calls)))
    c.partition_point-place.ensures.bound in
    let at : Some c.in-Some.other.now ≡ slice_get keys place = ap option_copied (sym c.in-Some.is) ∙ got_at keys place c.get.result c.get.ensures.lookup.3 in
    ap not c.is_before.ensures ∙ ap (is_there before order key) at ∙ there

pub returns-in-None : goal.returns-in-None
returns-in-None g c =
    let before = g.K.TableKey.before in
    let order = g.met.K.TableKey.total in
    let keys = c.args.keys.now in
    let key = c.args.key.now in
    let place = c.partition_point-place.result in
    let there : is_there before order key (slice_get keys place) ≡ among before key keys =
    found_among before order key keys c.requires place
    (λ ok. IsPartitionPoint-from_clause (is_over before order key) keys place c.partition_point-place.ensures.partitioned ok (λ a r q k. search (rules, of_calls)))
    c.partition_point-place.ensures.bound in
    let at : None ≡ slice_get keys place = ap option_copied (sym c.in-None.is) ∙ got_at keys place c.get.result c.get.ensures.lookup.3 in
    ap (is_there before order key) at ∙ there
