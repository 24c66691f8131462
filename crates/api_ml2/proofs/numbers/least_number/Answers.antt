use Rattle.std.proofs.Common.{◌≡◌, ◌+◌, ◌-◌, ◌≤◌, ◌∙◌, ap, arith, length, min, not}
use Rattle.std.proofs.lemmas.Grind.{common_steps}
use Rattle.api_types.specs.Least.{least_from}
use Rattle.api_ml2.specs.Numbers.{is_taken}
use Rattle.api_ml2.proofs.NumberLemmas.{few_looked_at}
use Rattle.api_ml2.proofs.numbers.least_number.Goals as goal

pub returns : goal.returns
returns c =
    let networks = c.args.networks.now in
    let settings = c.args.settings.now in
    let first = c.vxlan_first-first.ensures.value in
    let last = c.vxlan_last-last.ensures.value in
    let ordered : settings.vxlan_first ≤ settings.vxlan_last = c.vxlan_first-first.ensures.rules.in_order in
    let least : c.min-many.result ≡ min (c.vxlan_last-last.result - c.vxlan_first-first.result) (length networks) = grind (arith, common_steps) in
    let many : length c.as_slice.result.now ≡ min (settings.vxlan_last - settings.vxlan_first) (length networks) + 1 =
    ap length c.as_slice.ensures.value ∙ c.in_ok-marks.ensures.many ∙ ap (λ m. m + 1) least ∙ ap (λ m. min m (length networks) + 1) (ap (λ l. l - c.vxlan_first-first.result) last ∙ ap (λ f. settings.vxlan_last - f) first) in
    c.least_unmarked.ensures
    ∙ ap (λ m. least_from (λ n. not (is_taken networks n)) c.vxlan_first-first.result m) many
    ∙ ap (λ f. least_from (λ n. not (is_taken networks n)) f (min (settings.vxlan_last - settings.vxlan_first) (length networks) + 1)) first
    ∙ few_looked_at networks settings.vxlan_first settings.vxlan_last ordered
