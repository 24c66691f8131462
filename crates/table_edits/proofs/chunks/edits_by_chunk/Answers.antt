use Rattle.std.proofs.Common.{◌≡◌, ◌+◌, ◌<◌, [], ◌∷◌, arith, drop, get_or, length, subst}
use Rattle.std.proofs.lemmas.List.{drop_all, drop_more}
use Rattle.table_edits.proofs.ChunkLaw.{ChunksSoFar, chunk_step, chunks_done, chunks_lead}
use Rattle.table_edits.proofs.chunks.edits_by_chunk.Goals as goal

pub loop-number-preserved : goal.loop-number-preserved
loop-number-preserved g c =
    let before = g.T.Key.TableKey.before in
    let order = g.met.T.Key.TableKey.total in
    let came = g.T.ByChunk.came c.args.table.now in
    let comes = g.T.ByChunk.comes c.args.table.now in
    let rows = c.args.numbers.now.rows in
    let items = c.args.numbers.now.items in
    let touched = c.args.touched.now in
    let i = c.loop-number.number-index in
    let k = get_or touched i 0 in
    let left = drop (i + 1) touched in
    let within : i < length touched = omega (arith, c.loop-number-test.true) in
    let step : drop i touched ≡ k ∷ left = drop_more touched i 0 within in
    chunk_step before order came comes rows items touched left k c.loop-number.edits c.add_chunk.new.edits
    (subst (λ ks. ChunksSoFar before order came comes rows items touched ks c.loop-number.edits) step c.loop-number.invariant)
    c.in_ok-add_chunk.ensures

pub returns : goal.returns
returns g c =
    let before = g.T.Key.TableKey.before in
    let order = g.met.T.Key.TableKey.total in
    let came = g.T.ByChunk.came c.args.table.now in
    let comes = g.T.ByChunk.comes c.args.table.now in
    let rows = c.args.numbers.now.rows in
    let items = c.args.numbers.now.items in
    let touched = c.args.touched.now in
    let es = c.loop-number.edits in
    let all : drop c.loop-number.number-index touched ≡ [] = drop_all c.loop-number.number-index touched (omega (arith, c.loop-number-test.false)) in
    let are = chunks_done before order came comes rows items touched es (subst (λ ks. ChunksSoFar before order came comes rows items touched ks es) all c.loop-number.invariant) in
    chunks_lead before order came comes rows items c.requires.rise c.requires.rise_after c.args.rows.now touched es c.requires.rows c.requires.down are c.requires.untouched
