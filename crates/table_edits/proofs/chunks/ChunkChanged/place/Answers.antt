use Rattle.std.proofs.Common.{◌∙◌, ap, subst, sym}
use Rattle.std.specs.Prelude.{option_copied}
use Rattle.plane_types.specs.Keyed.{Rises, below, with_keys}
use Rattle.table_edits.specs.ChunksSeen.{chunk_at}
use Rattle.table_edits.proofs.ChunkPlaces.{below_keys, keys_rise}
use Rattle.table_edits.proofs.chunks.ChunkChanged.place.Goals as goal

pub count_before-requires : goal.count_before-requires
count_before-requires g c =
    let self = c.args.self.now in
    let before = g.T.Key.TableKey.before in
    let es = chunk_at (g.T.ByChunk.came self.table.now) (option_copied self.old) in
    subst (λ ks. Rises before (with_keys (λ k. k) ks)) (sym self.keyed ∙ sym c.as_slice.ensures.value) (keys_rise before g.met.T.Key.TableKey.total es self.rise)

pub returns : goal.returns
returns g c =
    let self = c.args.self.now in
    let before = g.T.Key.TableKey.before in
    let es = chunk_at (g.T.ByChunk.came self.table.now) (option_copied self.old) in
    c.count_before.ensures
    ∙ ap (λ ks. below before c.args.key.now (with_keys (λ k. k) ks)) (c.as_slice.ensures.value ∙ self.keyed)
    ∙ sym (below_keys before g.met.T.Key.TableKey.total c.args.key.now es)
