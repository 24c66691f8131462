use Rattle.std.proofs.Common.{◌≡◌, ◌∙◌, ◌+◌, ◌<◌, ◌^◌, ◌∷◌, [], ap, arith, subst, sym, true, false}
use Rattle.std.specs.Prelude.{option_to_list}
use Rattle.net_addr.specs.Addresses.{number, with_number, width}
use Rattle.net_addr.specs.Prefixes.{IsSpan, Span}
use Rattle.net_addr.specs.Spans.{is_within}
use Rattle.net_addr.specs.declared.address.Addr.{Addr}
use Rattle.api_ipam.proofs.DefaultLemmas.{above_if, none_above, span_beyond}
use Rattle.api_ipam.proofs.defaults.above.Goals as goal

pub returns-in_err-first : goal.returns-in_err-first
returns-in_err-first c =
    let s = c.args.span.now in
    let whole = subst IsSpan c.span.view_is c.span.invariant in
    let last : c.span.inside.last ≡ s.last = ap (λ (t : Span). t.last) c.span.view_is in
    let number_is : c.number_of-last.result ≡ number s.last = c.number_of-last.ensures.word ∙ ap number last in
    let width_is : 2 ^ width c.span.inside.last ≡ 2 ^ width s.last = ap (λ (x : Addr). 2 ^ width x) last in
    let bound : number s.last < 2 ^ width s.last = omega (arith, c.number_of-last.ensures.bound, number_is, width_is) in
    ap option_to_list c.from_residual.ensures ∙ none_above s c.args.address.now c.requires.inside whole.0 bound c.in_err-first.ensures

pub returns-then-not-has : goal.returns-then-not-has
returns-then-not-has c =
    let s = c.args.span.now in
    let x = c.args.address.now in
    let whole = subst IsSpan c.span.view_is c.span.invariant in
    let out : is_within s (with_number x (number x + 1)) ≡ false = ap (is_within s) (sym c.in_ok-first.ensures) ∙ (sym c.has.ensures ∙ c.if-not-has.true) in
    above_if s x c.requires.inside false whole.0 out

pub invariant_of-result : goal.invariant_of-result
invariant_of-result c =
    let inside = subst (λ (s : Span). is_within s c.in_ok-first.first ≡ true) (sym c.span.view_is) (sym c.has.ensures ∙ c.if-not-has.false) in
    let both = span_beyond _ c.in_ok-first.first inside c.span.invariant.0 in
    (both.0, both.1)

pub returns : goal.returns
returns c =
    let s = c.args.span.now in
    let x = c.args.address.now in
    let whole = subst IsSpan c.span.view_is c.span.invariant in
    let within : is_within s (with_number x (number x + 1)) ≡ true = ap (is_within s) (sym c.in_ok-first.ensures) ∙ (sym c.has.ensures ∙ c.if-not-has.false) in
    (λ j. record { first = c.in_ok-first.ensures j; last = (c.span.view_is j).last } ∷ []) ∙ above_if s x c.requires.inside true whole.0 within
