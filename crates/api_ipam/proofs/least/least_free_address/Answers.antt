use Rattle.std.proofs.Common.{◌∙◌, ◌+◌, Bool, ap, drop, not, sym}
use Rattle.std.proofs.lemmas.List.{at_drop_more}
use Rattle.net_addr.specs.Prefixes.{Span}
use Rattle.net_addr.specs.declared.address.Addr.{Addr}
use Rattle.api_ipam.specs.FixedChoice.{is_in}
use Rattle.api_ipam.specs.Addresses.{least_free_address, least_within, lesser}
use Rattle.api_ipam.proofs.AddressLemmas.{lesser_of_three}
use Rattle.api_ipam.proofs.least.least_free_address.Goals as goal

pub loop-pool-preserved : goal.loop-pool-preserved
loop-pool-preserved c =
    let free : Addr → Bool = λ x. not (is_in c.args.held.now x) in
    let pools = c.args.pools.now in
    let k = c.loop-pool.pool-index in
    let pool = c.pool-item.result in
    let left = least_free_address free (drop (k + 1) pools) in
    let here = at_drop_more (least_free_address free) pools k pool c.loop-pool-test.true ∙ ap (λ (s : Span). lesser (least_within free s) left) (sym c.pool-item.is) in
    let step = c.lesser-least.ensures ∙ ap (lesser c.loop-pool.least) c.least_within.ensures in
    ap (λ o. lesser o left) step ∙ (lesser_of_three c.loop-pool.least (least_within free pool) left ∙ (ap (lesser c.loop-pool.least) (sym here) ∙ c.loop-pool.invariant))
