use Rattle.std.proofs.Common.{rules}
use Rattle.std.proofs.lemmas.Cmp.{on_total, nat_list_cmp_total}
use Rattle.std.proofs.lemmas.Iterator.{YieldsList-from_slice, YieldsList-from_map_by, items_from_drains}
use Rattle.std.proofs.lemmas.List.{length-map}
use Rattle.std.proofs.lemmas.Map.Views.{btree_set_len-from_list}
use Rattle.wanted_files.proofs.NameCounts.{count_of_refs}
use Rattle.wanted_files.proofs.names.are_different.Goals as goal
use Rattle.wanted_files.specs.declared.wanted.WantedReach.{WantedReach}

pub returns : goal.returns
returns c =
    let ran = c.in_ok-names.ensures.ran in
    let items = c.args.tables.now in
    let yields = YieldsList-from_map_by _ (λ r. r.now) (λ (w : WantedReach). w.name) (YieldsList-from_slice items cc) c.map.ensures.closure (λ x r q k. search rules) in
    let texts = items_from_drains ran.0 ran.1 yields in
    let count = btree_set_len-from_list (on_total (λ r. r.now) nat_list_cmp_total) ran.0 c.in_ok-names.names ran.2 in
    rw (c.len.ensures.len, count, count_of_refs ran.0, texts, length-map items (λ (w : WantedReach). w.name))
