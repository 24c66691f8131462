use Rattle.std.proofs.Common.{◌≡◌, ◌∙◌, ◌<◌, Bool, true, false, not, ap, arith, subst, sym}
use Rattle.net_addr.specs.Addresses.{number, with_number}
use Rattle.net_addr.specs.Prefixes.{IsSpan, Span}
use Rattle.net_addr.specs.declared.address.Addr.{Addr}
use Rattle.api_ipam.specs.FixedChoice.{is_in}
use Rattle.api_ipam.proofs.AddressLemmas.{ended, found, inside, next_is, onward, sought}
use Rattle.api_ipam.proofs.least.search_within.Goals as goal

false_true : (P : Type 0) → false ≡ true → P
false_true P h = cc

pub returns-then-is_same : goal.returns-then-is_same
returns-then-is_same c =
    let i = c.loop-span.invariant in
    let last = ap (λ (s : Span). s.last) c.span.view_is in
    ended (λ x. not (is_in c.args.held.now x)) c.args.span.now c.loop-span.address i.to i.is i.sought (c.is_same.ensures.0 c.if-is_same.true ∙ last)
    (ap not (sym c.has.ensures ∙ c.loop-span-test.true))

pub loop-span-preserved : goal.loop-span-preserved
loop-span-preserved c =
    let i = c.loop-span.invariant in
    let s = c.args.span.now in
    let x = c.loop-span.address in
    let test : Addr → Bool = λ y. not (is_in c.args.held.now y) in
    let whole = subst IsSpan c.span.view_is c.span.invariant in
    let apart : x ≡ s.last → ⊥ = λ e. false_true ⊥ (sym c.if-is_same.false ∙ c.is_same.ensures.1 (e ∙ sym (ap (λ (t : Span). t.last) c.span.view_is))) in
    let less : number x < number s.last = inside test s x i.to i.is i.sought whole.0 apart in
    let next = next_is s.first x c.in_ok-address.address i.is c.in_ok-address.ensures in
    record {
      within = omega (arith, next.1);
      to = omega (arith, next.1);
      is = next.0 ∙ ap (with_number s.first) (sym next.1);
      sought = ap (sought test s) next.1 ∙ onward test s x i.to i.is i.sought less (ap not (sym c.has.ensures ∙ c.loop-span-test.true));
    }

pub returns : goal.returns
returns c =
    let i = c.loop-span.invariant in
    found (λ x. not (is_in c.args.held.now x)) c.args.span.now c.loop-span.address i.to i.is i.sought (ap not (sym c.has.ensures ∙ c.loop-span-test.false))
