use Rattle.std.proofs.Common.{◌≡◌, ◌+◌, ◌∷◌, [], ◌++◌, take, suc, arith, ap, ◌∙◌, sym, subst, true≢false}
use Rattle.std.proofs.Math.Seq.{take-suc}
use Rattle.api_types.specs.Rows.{Fits}
use Rattle.api_types.proofs.ChangeLemmas.{Fits-push}
use Rattle.api_types.proofs.KindLemmas.{Fits-at}
use Rattle.api_types.proofs.fits.fit_rows.Goals as goal

pub returns-then-not-fits_item : goal.returns-then-not-fits_item
returns-then-not-fits_item c = (
  (λ t. absurd (true≢false (sym t))),
  (λ fits.
      let yes = c.fits_item.ensures.1 (Fits-at c.args.rows.now c.args.items.now c.index-items-place.result c.loop-place.place c.loop-place-test.true c.index-items-place.is fits) in
      let no = c.if-not-fits_item.true in
      absurd cc),
)

pub loop-place-preserved : goal.loop-place-preserved
loop-place-preserved c =
    let items = c.args.items.now in
    let item = c.index-items-place.result in
    let next : c.loop-place.place + 1 ≡ suc c.loop-place.place = omega arith in
    let one : take (c.loop-place.place + 1) items ≡ take c.loop-place.place items ++ item ∷ [] =
    ap (λ n. take n items) next ∙ take-suc items c.loop-place.place item c.loop-place-test.true
    ∙ ap (λ x. take c.loop-place.place items ++ x ∷ []) (sym c.index-items-place.is) in
    subst (Fits c.args.rows.now) (sym one) (Fits-push c.args.rows.now (take c.loop-place.place items) item c.loop-place.invariant (c.fits_item.ensures.0 c.if-not-fits_item.false))
