use Rattle.std.proofs.Common.{◌≡◌, ◌+◌, ◌<◌, ◌≤◌, length, refl, rules, arith}
use Rattle.net_addr.specs.Addresses.{width}
use Rattle.net_addr.specs.Spelling.{IsCidrText, IsLongestStart}
use Rattle.net_addr.proofs.CidrLemmas.{bad_front, bad_number, cidr_once, cidr_spelled, first_slash, no_length, number_behind, number_bound}
use Rattle.net_addr.proofs.address.Cidr.read.Goals as goal

pub returns-in_err-addr-clause-refused : goal.returns-in_err-addr-clause-refused
returns-in_err-addr-clause-refused c =
    let text = c.args.text.now in
    let i = c.slash_in-slash.result in
    let f = first_slash text i c.slash_in-slash.ensures.within c.slash_in-slash.ensures.before c.slash_in-slash.ensures.found in
    let none : IsCidrText text → ⊥ = (bad_front text i c.in_err-addr.field-0.0.at f c.in_err-addr.ensures.refused c.in_err-addr.ensures.at).0 in
    search (rules, none)

pub returns-in_err-addr-clause-at : goal.returns-in_err-addr-clause-at
returns-in_err-addr-clause-at c =
    let text = c.args.text.now in
    let i = c.slash_in-slash.result in
    let f = first_slash text i c.slash_in-slash.ensures.within c.slash_in-slash.ensures.before c.slash_in-slash.ensures.found in
    let start : IsLongestStart IsCidrText text c.in_err-addr.field-0.0.at = (bad_front text i c.in_err-addr.field-0.0.at f c.in_err-addr.ensures.refused c.in_err-addr.ensures.at).1 in
    search (rules, start)

pub returns-then-slash-text-clause-refused : goal.returns-then-slash-text-clause-refused
returns-then-slash-text-clause-refused c =
    let text = c.args.text.now in
    let i = c.slash_in-slash.result in
    let f = first_slash text i c.slash_in-slash.ensures.within c.slash_in-slash.ensures.before c.slash_in-slash.ensures.found in
    (no_length text i c.in_ok-addr.addr f c.if-slash-text.true c.in_ok-addr.ensures.ok).0

pub returns-then-slash-text-clause-at : goal.returns-then-slash-text-clause-at
returns-then-slash-text-clause-at c =
    let text = c.args.text.now in
    let i = c.slash_in-slash.result in
    let f = first_slash text i c.slash_in-slash.ensures.within c.slash_in-slash.ensures.before c.slash_in-slash.ensures.found in
    (no_length text i c.in_ok-addr.addr f c.if-slash-text.true c.in_ok-addr.ensures.ok).1

pub invariant_of-result : goal.invariant_of-result
invariant_of-result c =
    let b : c.in-Ok.len ≤ c.width.result = number_bound c.width.result _ c.in-Ok.len ((c.in-Ok.ensures.ok c.in-Ok.len).1 refl) in
    let w : c.width.result ≡ width c.in_ok-addr.addr = c.width.ensures in
    omega (arith, b, w)

pub returns-in-Ok-clause-ok : goal.returns-in-Ok-clause-ok
returns-in-Ok-clause-ok c =
    let text = c.args.text.now in
    let i = c.slash_in-slash.result in
    let a = c.in_ok-addr.addr in
    let len = c.in-Ok.len in
    let f = first_slash text i c.slash_in-slash.ensures.within c.slash_in-slash.ensures.before c.slash_in-slash.ensures.found in
    let l : i < length text = omega (arith, c.slash_in-slash.ensures.within, c.if-slash-text.false) in
    let n = number_behind text i (i + 1) c.width.result len a refl c.width.ensures ((c.in-Ok.ensures.ok len).1 refl) in
    cidr_spelled text i len a f l c.in_ok-addr.ensures.ok n

pub returns-in-Ok-clause-only : goal.returns-in-Ok-clause-only
returns-in-Ok-clause-only c =
    let text = c.args.text.now in
    let i = c.slash_in-slash.result in
    let a = c.in_ok-addr.addr in
    let len = c.in-Ok.len in
    let f = first_slash text i c.slash_in-slash.ensures.within c.slash_in-slash.ensures.before c.slash_in-slash.ensures.found in
    let l : i < length text = omega (arith, c.slash_in-slash.ensures.within, c.if-slash-text.false) in
    let n = number_behind text i (i + 1) c.width.result len a refl c.width.ensures ((c.in-Ok.ensures.ok len).1 refl) in
    λ w s. cidr_once text w (record { addr = a; len = len }) s (cidr_spelled text i len a f l c.in_ok-addr.ensures.ok n)

pub returns-in-Err-clause-refused : goal.returns-in-Err-clause-refused
returns-in-Err-clause-refused c =
    let text = c.args.text.now in
    let i = c.slash_in-slash.result in
    let f = first_slash text i c.slash_in-slash.ensures.within c.slash_in-slash.ensures.before c.slash_in-slash.ensures.found in
    let l : i < length text = omega (arith, c.slash_in-slash.ensures.within, c.if-slash-text.false) in
    (bad_number text i (i + 1) c.width.result c.in-Err.bad.at c.in_ok-addr.addr refl c.width.ensures f l c.in_ok-addr.ensures.ok c.in-Err.ensures.refused c.in-Err.ensures.at).0

pub returns-in-Err-clause-at : goal.returns-in-Err-clause-at
returns-in-Err-clause-at c =
    let text = c.args.text.now in
    let i = c.slash_in-slash.result in
    let f = first_slash text i c.slash_in-slash.ensures.within c.slash_in-slash.ensures.before c.slash_in-slash.ensures.found in
    let l : i < length text = omega (arith, c.slash_in-slash.ensures.within, c.if-slash-text.false) in
    (bad_number text i (i + 1) c.width.result c.in-Err.bad.at c.in_ok-addr.addr refl c.width.ensures f l c.in_ok-addr.ensures.ok c.in-Err.ensures.refused c.in-Err.ensures.at).1
