use Rattle.std.proofs.Common.{◌≡◌, ◌∙◌, ◌-◌, ◌∷◌, [], ap, subst, sym, true, false}
use Rattle.net_addr.specs.Addresses.{number, with_number}
use Rattle.net_addr.specs.Prefixes.{Span}
use Rattle.net_addr.specs.Spans.{is_within}
use Rattle.api_ipam.proofs.DefaultLemmas.{below_if, span_between}
use Rattle.api_ipam.proofs.defaults.below.Goals as goal

pub returns-then-not-has : goal.returns-then-not-has
returns-then-not-has c =
    let s = c.args.span.now in
    let out : is_within s (with_number c.args.address.now (number c.args.address.now - 1)) ≡ false = ap (is_within s) (sym c.in_ok-last.ensures) ∙ (sym c.has.ensures ∙ c.if-not-has.true) in
    below_if s c.args.address.now c.requires.inside false out

pub invariant_of-result : goal.invariant_of-result
invariant_of-result c =
    let inside = subst (λ (s : Span). is_within s c.in_ok-last.last ≡ true) (sym c.span.view_is) (sym c.has.ensures ∙ c.if-not-has.false) in
    let both = span_between _ c.in_ok-last.last inside in
    (both.0, both.1)

pub returns : goal.returns
returns c =
    let s = c.args.span.now in
    let x = c.args.address.now in
    let within : is_within s (with_number x (number x - 1)) ≡ true = ap (is_within s) (sym c.in_ok-last.ensures) ∙ (sym c.has.ensures ∙ c.if-not-has.false) in
    (λ j. record { first = (c.span.view_is j).first; last = c.in_ok-last.ensures j } ∷ []) ∙ below_if s x c.requires.inside true within
