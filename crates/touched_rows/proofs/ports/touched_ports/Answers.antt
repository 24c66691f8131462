use Rattle.std.proofs.Common.{◌≡◌, ◌∙◌, ◌++◌, List, ℕ, ap, slice_get, sym}
use Rattle.std.specs.Prelude.{◌&&◌, nat_lt}
use Rattle.std.specs.HashSet.{contains}
use Rattle.std.proofs.lemmas.Result.{IfOk-weaker}
use Rattle.api_types.specs.Table.{ident_eq}
use Rattle.table_edits.specs.EditsAt.{among}
use Rattle.touched_rows.specs.TouchedNumbers.{can_live_on, numbers_from}
use Rattle.touched_rows.proofs.AmongLemmas.{among_any, among_neither, not_among}
use Rattle.touched_rows.proofs.RouterLemmas.{at_place}
use Rattle.touched_rows.proofs.ports.touched_ports.Goals as goal

pub returns-clause-named : goal.returns-clause-named
returns-clause-named c =
    let named = c.named.result.now in
    let on = numbers_from (can_live_on (contains ident_eq c.args.networks.now)) 0 c.rows.result.now in
    let all : c.add_ports_on.new.numbers.items ≡ named ++ on = c.in_ok-add_ports_on.ensures ∙ ap (λ (ns : List ℕ). ns ++ on) c.in_ok-numbers.ensures.items in
    IfOk-weaker c.descending.result _ _ (λ ks same k away.
    let neither = among_neither k named on (ap (among nat_lt k) (sym all) ∙ sym (same k) ∙ away) in
    c.named.ensures k (sym (among_any k named) ∙ neither.0)) c.descending.ensures.same

pub returns-clause-networks : goal.returns-clause-networks
returns-clause-networks c =
    let named = c.named.result.now in
    let on = numbers_from (can_live_on (contains ident_eq c.args.networks.now)) 0 c.rows.result.now in
    let all : c.add_ports_on.new.numbers.items ≡ named ++ on = c.in_ok-add_ports_on.ensures ∙ ap (λ (ns : List ℕ). ns ++ on) c.in_ok-numbers.ensures.items in
    IfOk-weaker c.descending.result _ _ (λ ks same k p away at can.
    let neither = among_neither k named on (ap (among nat_lt k) (sym all) ∙ sym (same k) ∙ away) in
    sym (ap (λ b. b && contains ident_eq c.args.networks.now p.network) can)
    ∙ not_among (can_live_on (contains ident_eq c.args.networks.now)) c.rows.result.now k p (ap (λ rs. slice_get rs k) c.rows.ensures.rows ∙ sym (at_place c.args.ports.now.rows k) ∙ at) neither.1) c.descending.ensures.same
