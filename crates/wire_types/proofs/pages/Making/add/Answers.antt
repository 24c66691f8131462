use Rattle.std.proofs.Common.{◌≡◌, ◌-◌, ap, ◌∙◌, drop, length, map, sym, take}
use Rattle.std.specs.Prelude.{◌||◌, min, nat_lt}
use Rattle.std.proofs.lemmas.Result.{on_ok_weaker}
use Rattle.wire_types.specs.Pages.{page_row, page_size}
use Rattle.wire_types.specs.PagesMade.{with_rows}
use Rattle.wire_types.proofs.PagesMadeLemmas.{made}
use Rattle.wire_types.proofs.pages.Making.add.Goals.{else-self, then-self}
use Rattle.wire_types.proofs.pages.Making.add.Goals as goal

pub returns : goal.returns
returns g c =
    let old = c.args.self.now in
    let xs = c.rows-rows.result.now in
    let f = λ (r : g.row.R.Denot). page_row (g.R.RowKind.into_of r) in
    let after = nat_lt c.min-count.result (length (take (length xs - c.min-start.result) (drop c.min-start.result xs))) in
    let count = c.min-count.ensures ∙ ap (min (length (take (length xs - c.min-start.result) (drop c.min-start.result xs)))) (c.saturating_sub.ensures ∙ ap (λ n. page_size - n) c.len.ensures) in
    let more : c.if-self.self ≡ (old.more || after) = elim c.if-self.branch [
      | then-self w ↦ w.self-is ∙ w.if-self.true ∙ sym (ap (λ b. b || after) w.if-self.true)
      | else-self w ↦ w.self-is ∙ sym (ap (λ b. b || after) w.if-self.false)
    ] in
    on_ok_weaker c.add_rows.result
    (λ rows. made f old xs c.min-start.result c.min-count.result c.min-start.ensures count c.add_rows.new.page c.if-self.self rows more
    ∙ ap (λ l. with_rows old (map f l)) (c.rows-rows.ensures.rows ∙ c.table.ensures))
    c.add_rows.ensures
