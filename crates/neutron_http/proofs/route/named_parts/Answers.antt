use Rattle.std.proofs.Common.{◌≤◌, ◌<◌, ◌⊎◌, ◌∙◌, sym, ap, arith, [], ◌∷◌, ◌++◌, length, ℕ, List, min}
use Rattle.neutron_http.proofs.RouteLemmas.{one_more, no_more, all_found}
use Rattle.neutron_http.proofs.route.named_parts.Goals as goal
use Rattle.neutron_http.proofs.route.named_parts.Goals.{then-is_name+in_ok-of+in_ok-push, else-is_name}
use denote.Ref.{Bor}

none : Bor (List ℕ)
none = record { ref_ptr = (0, 0); now = [] }

pub loop-at-preserved : goal.loop-at-preserved
unfolding none
loop-at-preserved c =
    let inside : c.loop-at.at < length c.args.names.now = omega (arith, c.loop-at-test.true, c.min-at-end.ensures) in
    let within : c.loop-at.at < length c.args.parts.now = omega (arith, c.loop-at-test.true, c.min-at-end.ensures) in
    elim c.if-is_name.branch [
      | then-is_name+in_ok-of+in_ok-push w ↦ one_more (λ s. s.now) c.args.names.now c.args.parts.now c.loop-at.found c.if-is_name.found _ c.loop-at.at none none inside within c.loop-at.invariant
          (sym c.is_name.ensures ∙ w.if-is_name.true) (w.found-is ∙ w.in_ok-push.ensures.ok ∙ ap (λ t. c.loop-at.found ++ t ∷ []) w.in_ok-of.ensures)
      | else-is_name w ↦ no_more (λ s. s.now) c.args.names.now c.args.parts.now c.loop-at.found c.if-is_name.found _ c.loop-at.at none none inside within c.loop-at.invariant
          (sym c.is_name.ensures ∙ w.if-is_name.false) w.found-is
    ]

shorter : (m n i : ℕ) → min m n ≤ i → (m ≤ i) ⊎ (n ≤ i)
shorter m n i h = grind arith

pub returns : goal.returns
returns c = all_found (λ s. s.now) c.args.names.now c.args.parts.now c.loop-at.found _ c.loop-at.at
    (shorter (length c.args.names.now) (length c.args.parts.now) c.loop-at.at (omega (arith, c.loop-at-test.false, c.min-at-end.ensures))) c.loop-at.invariant
