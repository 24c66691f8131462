use Rattle.std.proofs.Common.{◌≡◌, ◌∙◌, ℕ, suc, ◌-◌, ◌<◌, Some, length, drop, drop-cons, find, get_or, ap, sym, arith}
use Rattle.std.specs.Prelude.{if◌then◌else◌}
use Rattle.api_types.specs.Ident.{Ident}
use Rattle.table_edits.specs.NumbersSeen.{at_after}
use Rattle.dhcp_delta.specs.Serving.{serves_any}
use Rattle.dhcp_delta.proofs.servers.servers_among.Goals as goal

pub loop-left-preserved : goal.loop-left-preserved
loop-left-preserved c =
    let change = c.args.change.now in
    let touched = c.args.touched.now in
    let left = c.loop-left.left in
    let after_one : left ≡ suc (left - 1) = omega (arith, c.loop-left-test.true) in
    let within : left - 1 < length touched = omega (arith, c.loop-left.invariant.within, c.loop-left-test.true) in
    let k = get_or touched (left - 1) 0 in
    let test = λ (n : Ident) (k : ℕ). serves_any change.after.now change.host.now n (at_after change.ports k) in
    record {
      within = omega (arith, c.loop-left.invariant.within);
      found = λ n. c.in_ok-add_server.ensures n
          ∙ ap (λ o. if test n k then Some k else o) (c.loop-left.invariant.found n ∙ ap (λ m. find (test n) (drop m touched)) after_one)
          ∙ sym (ap (find (test n)) (drop-cons touched (left - 1) 0 within));
    }
