use Rattle.std.proofs.Common.{◌≡◌, ◌∙◌, ◌++◌, List, ℕ, ap, sym}
use Rattle.std.specs.HashSet.{keys}
use Rattle.std.specs.List.{filter_map}
use Rattle.std.proofs.lemmas.Result.{IfOk-weaker}
use Rattle.api_types.specs.Table.{place_of}
use Rattle.api_types.specs.declared.network.NetworkRow.{NetworkRow}
use Rattle.kept_rows.proofs.FoundLemmas.{place_of_number}
use Rattle.l2_delta.proofs.TouchedNumbers.{none_of_both, none_placed}
use Rattle.l2_delta.proofs.delta.numbers_of.Goals as goal

pub returns-clause-named : goal.returns-clause-named
returns-clause-named c =
    let rows = c.args.networks.now.rows in
    let named = c.named.result.now in
    let placed =
    filter_map (λ i. place_of (λ (n : NetworkRow). n.id) i rows) (keys c.args.touched.now) in
    let all : c.add_numbers.new.numbers.items ≡ named ++ placed =
    c.in_ok-add_numbers.ensures
    ∙ ap (λ (ns : List ℕ). ns ++ placed) c.in_ok-numbers.ensures.items in
    IfOk-weaker c.descending.result _ _ (λ ks same k away.
    c.named.ensures k (none_of_both named placed all k (sym (same k) ∙ away)).0)
    c.descending.ensures.same

pub returns-clause-touched : goal.returns-clause-touched
returns-clause-touched c =
    let rows = c.args.networks.now.rows in
    let named = c.named.result.now in
    let touched = keys c.args.touched.now in
    let placed = filter_map (λ i. place_of (λ (n : NetworkRow). n.id) i rows) touched in
    let all : c.add_numbers.new.numbers.items ≡ named ++ placed =
    c.in_ok-add_numbers.ensures
    ∙ ap (λ (ns : List ℕ). ns ++ placed) c.in_ok-numbers.ensures.items in
    IfOk-weaker c.descending.result _ _ (λ ks same k w away at.
    none_placed rows c.rows-own_ids.ensures.own_ids k w (sym (place_of_number rows k) ∙ at) touched
    (none_of_both named placed all k (sym (same k) ∙ away)).1)
    c.descending.ensures.same
