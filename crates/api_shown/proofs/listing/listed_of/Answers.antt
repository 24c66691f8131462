use Rattle.std.proofs.Common.{◌≡◌, ◌∙◌, ◌++◌, ap, sym, map, drop, length, arith}
use Rattle.std.proofs.lemmas.List.{length-map, drop_all}
use Rattle.api_types.specs.Printed.{shown_row}
use Rattle.api_policy.specs.Listed.{is_full as is_at_limit, listed_of as rows_listed_of}
use Rattle.api_shown.proofs.CutLemmas.{Within, front, whole}
use Rattle.api_shown.proofs.listing.listed_of.Goals as goal
use Rattle.api_shown.proofs.listing.listed_of.Goals.{else-loop-row-test, then-loop-row-test+then-is_full}

pub returns : goal.returns
returns g c =
    let listed = c.loop-row.listed in
    let rows_of = rows_listed_of (g.R.Visible.seen c.args.rows.now c.args.caller.now) (g.R.Shows.members_of c.args.rows.now c.args.caller.now) c.args.kind c.args.caller.now.admin c.args.query.now in
    let many : length (map shown_row listed.items) ≡ length listed.items = length-map listed.items shown_row in
    let within : Within c.args.query.now.limit (length (map shown_row listed.items)) = rw many c.loop-row.invariant.1 in
    ap (map shown_row) c.from_vec.ensures
    ∙ elim c.loop-row-test.branch [
      | else-loop-row-test w ↦
          whole c.args.query.now.limit (map shown_row listed.items) (rows_of c.args.candidates.now)
          (sym (ap (λ rs. map shown_row listed.items ++ rows_of rs) (drop_all c.loop-row.row-index c.args.candidates.now (omega arith))) ∙ c.loop-row.invariant.0)
          within
      | then-loop-row-test+then-is_full w ↦
          front c.args.query.now.limit (map shown_row listed.items) (rows_of (drop c.loop-row.row-index c.args.candidates.now)) (rows_of c.args.candidates.now) c.loop-row.invariant.0 within
          (let same : length (map shown_row listed.items) ≡ w.len.result = omega (arith, many, listed.ok.0, w.len.ensures) in
          let query : c.args.query.now ≡ w.as_query.result.now = sym w.as_query.ensures in
          (λ j. is_at_limit (query j).limit (same j)) ∙ sym w.is_full.ensures ∙ w.if-is_full.true)
    ]
