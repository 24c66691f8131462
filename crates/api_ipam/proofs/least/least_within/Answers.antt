use Rattle.std.proofs.Common.{◌≡◌, ◌∙◌, ℕ, ◌+◌, ◌<◌, false, true, ap, not, subst}
use Rattle.net_addr.specs.Addresses.{number, with_number}
use Rattle.net_addr.specs.Prefixes.{Span}
use Rattle.api_ipam.specs.FixedChoice.{is_in}
use Rattle.api_ipam.proofs.AddressLemmas.{counted}
use Rattle.api_ipam.proofs.least.least_within.Goals as goal

pub returns : goal.returns
returns c =
    let held = c.args.held.now in
    let many = c.in-Some.many in
    let fails = subst (λ (s : Span). (k : ℕ) → k < many → is_in held (with_number s.first (number s.first + k)) ≡ true) c.span.view_is c.in-Some.ensures.held in
    let passes = subst (λ (s : Span). is_in held (with_number s.first (number s.first + many)) ≡ false) c.span.view_is c.in-Some.ensures.free in
    c.address_after.ensures ∙ counted (λ x. not (is_in held x)) c.args.span.now many (λ k less. ap not (fails k less)) (ap not passes)
