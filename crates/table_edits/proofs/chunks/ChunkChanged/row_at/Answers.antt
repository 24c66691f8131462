use Rattle.std.proofs.Common.{◌≡◌, ◌∙◌, ◌+◌, ◌<◌, None, Some, ap, false, length, map, not, rules, slice_get, sym, true}
use Rattle.std.specs.Prelude.{if◌then◌else◌, option_copied}
use Rattle.std.proofs.lemmas.Option.{slice_get_within}
use Rattle.plane_types.specs.Keyed.{row_at}
use Rattle.table_edits.specs.ChunksSeen.{chunk_at}
use Rattle.table_edits.proofs.ChunkPlaces.{chunk_found, row_there}
use Rattle.table_edits.proofs.PlaceLemmas.{got_at}
use Rattle.table_edits.proofs.chunks.ChunkChanged.row_at.Goals as goal

pub returns-in_err-own : goal.returns-in_err-own
returns-in_err-own g c =
    let self = c.args.self.now in
    let before = g.T.Key.TableKey.before in
    let order = g.met.T.Key.TableKey.total in
    let es = chunk_at (g.T.ByChunk.came self.table.now) (option_copied self.old) in
    let key = c.args.key.now in
    let place = c.args.place in
    let found : row_at before key es ≡ row_there before order key (slice_get self.keys.items place) (slice_get (map (λ x. x.1) es) place) =
    chunk_found before order key es self.rise ∙ (λ j. row_there before order key (slice_get (sym self.keyed j) (sym c.requires j)) (slice_get (map (λ x. x.1) es) (sym c.requires j))) in
    let gone : c.get.result ≡ None = search rules in
    let at : None ≡ slice_get self.keys.items place = ap option_copied (sym gone) ∙ got_at c.as_slice.result.now place c.get.result c.get.ensures.lookup.3 ∙ ap (λ l. slice_get l place) c.as_slice.ensures.value in
    let none : option_copied c.from_residual.result ≡ None = search rules in
    none ∙ ap (λ o. row_there before order key o (slice_get (map (λ x. x.1) es) place)) at ∙ sym found

pub returns-then-is_before : goal.returns-then-is_before
returns-then-is_before g c =
    let self = c.args.self.now in
    let before = g.T.Key.TableKey.before in
    let order = g.met.T.Key.TableKey.total in
    let es = chunk_at (g.T.ByChunk.came self.table.now) (option_copied self.old) in
    let key = c.args.key.now in
    let place = c.args.place in
    let own = c.in_ok-own.own.now in
    let found : row_at before key es ≡ row_there before order key (slice_get self.keys.items place) (slice_get (map (λ x. x.1) es) place) =
    chunk_found before order key es self.rise ∙ (λ j. row_there before order key (slice_get (sym self.keyed j) (sym c.requires j)) (slice_get (map (λ x. x.1) es) (sym c.requires j))) in
    let got : c.get.result ≡ Some c.in_ok-own.own = search rules in
    let at : Some own ≡ slice_get self.keys.items place = ap option_copied (sym got) ∙ got_at c.as_slice.result.now place c.get.result c.get.ensures.lookup.3 ∙ ap (λ l. slice_get l place) c.as_slice.ensures.value in
    let past : before key own ≡ true = sym c.is_before.ensures ∙ c.if-is_before.true in
    (λ j. if not (sym past j) then slice_get (map (λ x. x.1) es) place else None)
    ∙ ap (λ o. row_there before order key o (slice_get (map (λ x. x.1) es) place)) at ∙ sym found

pub returns-else-is_before : goal.returns-else-is_before
returns-else-is_before g c =
    let self = c.args.self.now in
    let before = g.T.Key.TableKey.before in
    let order = g.met.T.Key.TableKey.total in
    let es = chunk_at (g.T.ByChunk.came self.table.now) (option_copied self.old) in
    let key = c.args.key.now in
    let place = c.args.place in
    let own = c.in_ok-own.own.now in
    let found : row_at before key es ≡ row_there before order key (slice_get self.keys.items place) (slice_get (map (λ x. x.1) es) place) =
    chunk_found before order key es self.rise ∙ (λ j. row_there before order key (slice_get (sym self.keyed j) (sym c.requires j)) (slice_get (map (λ x. x.1) es) (sym c.requires j))) in
    let got : c.get.result ≡ Some c.in_ok-own.own = search rules in
    let at : Some own ≡ slice_get self.keys.items place = ap option_copied (sym got) ∙ got_at c.as_slice.result.now place c.get.result c.get.ensures.lookup.3 ∙ ap (λ l. slice_get l place) c.as_slice.ensures.value in
    let past : before key own ≡ false = sym c.is_before.ensures ∙ c.if-is_before.false in
    let less : place < length self.keys.items = slice_get_within self.keys.items place own (sym at) in
    let stands : option_copied c.get-else-is_before.result ≡ slice_get (map (λ x. x.1) es) place = got_at self.rows.now (self.start + place) c.get-else-is_before.result c.get-else-is_before.ensures.lookup.3 ∙ self.stand place less in
    stands ∙ (λ j. if not (sym past j) then slice_get (map (λ x. x.1) es) place else None)
    ∙ ap (λ o. row_there before order key o (slice_get (map (λ x. x.1) es) place)) at ∙ sym found
