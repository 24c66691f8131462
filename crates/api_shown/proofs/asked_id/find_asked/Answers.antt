use Rattle.std.proofs.Common.{◌≡◌, ◌∙◌, ◌≤◌, Some, ap, arith, option_copied, sym}
use Rattle.std.specs.Prelude.{find}
use Rattle.std.specs.List.{count_by}
use Rattle.std.proofs.lemmas.Bool.Decides.{nat_tests}
use Rattle.api_policy.specs.Filtered.{fits}
use Rattle.api_policy.specs.Trees.{id_word}
use Rattle.api_shown.specs.Keys.{is_under}
use Rattle.api_shown.proofs.AskedIdLemmas.{none_passes, unlike_asked}
use Rattle.api_shown.proofs.asked_id.find_asked.Goals as goal

pub returns-in-Some : goal.returns-in-Some
returns-in-Some c = λ i h other.
    let filters = c.args.filters.now in
    let name = c.args.name.now in
    let filter = c.in-Some.filter.now in
    let one : c.count_under.result ≡ 1 = grind (arith, nat_tests) in
    let few : count_by (is_under name) filters ≤ 1 = omega (arith, one, c.count_under.ensures) in
    let found : find (is_under name) filters ≡ Some filter = sym c.find_under.ensures ∙ ap option_copied c.in-Some.is in
    none_passes (is_under name) (λ f. fits f.value (id_word i)) filter filters few found
    (unlike_asked filter.value i h c.read_printed.result c.read_printed.ensures.drawable c.read_printed.ensures.text other)
