use Rattle.std.proofs.Common.{◌∙◌, ◌-◌, ◌≤◌, List, length, take, drop, ap, sym, subst}
use Rattle.std.specs.List.{filter}
use Rattle.plane_types.specs.Spare.{WithSpare}
use Rattle.plane_types.specs.Runs.{IsRun, IsRunOf}
use Rattle.plane_types.proofs.RunEdits.{near_all}
use Rattle.plane_types.proofs.runs.Runs.near.Goals as goal

pub returns-in-Some : goal.returns-in-Some
returns-in-Some g c =
    let test = g.R.Keyed.is_at c.args.key in
    let rows = c.self.inside.rows.items in
    let wide = c.self.inside.wide in
    let lost = c.self.inside.lost in
    let run = c.in-Some.run'.now in
    let part = c.part_of-part.result in
    let is : IsRun test rows wide lost run =
    subst (IsRunOf test rows wide lost) (sym c.in-Some.ensures.value)
    (c.self.invariant c.args.key) in
    let within : part.end ≤ length rows =
    subst (λ (xs : List g.row.R.Denot). part.end
    ≤ length xs) c.as_slice-rows.ensures c.part_of-part.ensures.within in
    ap (λ xs. filter test (take (part.end - part.start) (drop part.start xs)))
    c.as_slice-rows.ensures
    ∙ near_all test rows wide lost part.start part.end run is c.part_of-part.ensures.low
    c.part_of-part.ensures.order within
    (λ n p q. c.part_of-part.ensures.reaches n (subst (λ (xs : List g.row.R.Denot). n
    ≤ length xs) (sym c.as_slice-rows.ensures) p) q)
    ∙ ap (λ (v : WithSpare g.row.R.Denot). filter test v.items) c.self.view_is
