use Rattle.std.proofs.Common.{◌≡◌, ◌∙◌, ◌⊎◌, inr, get_or, option_copied, sym}
use Rattle.std.proofs.Math.Path.{transport}
use Rattle.table_edits.specs.NumbersSeen.{at_after, at_before}
use Rattle.kept_rows.proofs.FoundLemmas.{place_of_number}
use Rattle.l2_delta.specs.TagsStay.{PortStays}
use Rattle.l2_delta.proofs.TouchedNumbers.{at_next}
use Rattle.l2_delta.proofs.retag.Retagging.stay_by_ports.Goals as goal

pub loop-number-preserved : goal.loop-number-preserved
loop-number-preserved c =
    let r = c.args.self.now in
    let ports = c.args.ports.now in
    let numbers = c.named-number-items.result.now in
    let i = c.loop-number.number-index in
    let n = get_or numbers i 0 in
    let was : option_copied c.row.result ≡ at_before ports n =
    c.row.ensures ∙ sym (place_of_number ports.rows n) in
    let is : option_copied c.row_after.result ≡ at_after ports n = c.row_after.ensures in
    at_next
    (λ k. (at_before ports k ≡ at_after ports k)
    ⊎ PortStays r.before.now r.after.now r.host.now r.tags (at_before ports k) (at_after ports k))
    numbers i c.loop-number-test.true c.loop-number.invariant
    (inr (transport (λ j. PortStays r.before.now r.after.now r.host.now r.tags (was j) (is j))
    (c.stay_by_port.ensures c.if-not-stay_by_port.false)))
