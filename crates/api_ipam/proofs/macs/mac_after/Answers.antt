use Rattle.std.proofs.Common.{◌∙◌, ◌+◌, ◌-◌, ◌^◌, arith, not, sym}
use Rattle.api_types.specs.HeldAddresses.{is_mac_held}
use Rattle.api_ipam.specs.MacChoice.{first_mac}
use Rattle.api_ipam.proofs.LeastLemmas.{here_or_end, least-none, past_run}
use Rattle.api_ipam.proofs.macs.mac_after.Goals as goal

pub returns-then-greatest-next : goal.returns-then-greatest-next
returns-then-greatest-next c =
    let next = c.args.next in
    let free = c.requires.greatest next c.if-greatest-next.true in
    c.generated.ensures ∙ (here_or_end c.args.ports.now c.args.network (first_mac + 2 ^ 24) next free ∙ c.requires.sought)

pub returns-then-many-lt-WINDOW : goal.returns-then-many-lt-WINDOW
returns-then-many-lt-WINDOW c =
    let ports = c.args.ports.now in
    let end = first_mac + 2 ^ 24 in
    let free = c.count_held-many.ensures.free c.if-many-lt-WINDOW.true in
    c.generated-then-many-lt-WINDOW.ensures
    ∙ (here_or_end ports c.args.network end (c.search.mac + c.count_held-many.result) free
    ∙ (past_run ports c.args.network end c.search.mac c.count_held-many.result c.search-test.true c.count_held-many.ensures.held ∙ c.search.invariant))

pub search-preserved : goal.search-preserved
search-preserved c =
    let ports = c.args.ports.now in
    let end = first_mac + 2 ^ 24 in
    past_run ports c.args.network end c.search.mac c.count_held-many.result c.search-test.true c.count_held-many.ensures.held ∙ c.search.invariant

pub returns : goal.returns
returns c =
    sym (least-none (λ m. not (is_mac_held c.args.ports.now c.args.network m)) c.search.mac (first_mac + 2 ^ 24 - c.search.mac) (omega arith)) ∙ c.search.invariant
