use Rattle.std.proofs.Common.{◌≡◌, ◌∙◌, ◌+◌, ◌-◌, ◌<◌, ◌≤◌, ◌++◌, ◌∷◌, List, [], ap, arith, drop, length, subst, sym, take, true, false}
use Rattle.std.proofs.lemmas.List.{at_drop_more}
use Rattle.api_types.specs.Consistent.InForm.{is_eui}
use Rattle.api_types.specs.declared.port.Fixed.{Fixed}
use Rattle.api_types.specs.declared.subnet.SubnetRow.{SubnetRow}
use Rattle.api_ipam.specs.FixedChoice.{all_euis, eui_fixed}
use Rattle.api_ipam.proofs.FreeLemmas.{length_last, none_more, one_more}
use Rattle.api_ipam.proofs.free.few_euis.Goals as goal
use Rattle.api_ipam.proofs.free.few_euis.Goals.{then-is_eui+in_ok-push, else-is_eui}

pub loop-subnet-preserved : goal.loop-subnet-preserved
loop-subnet-preserved c =
    let mac = c.args.mac in
    let most = c.args.most in
    let subnets = c.args.subnets.now in
    let i = c.loop-subnet.subnet-index in
    let s = c.subnet-item.result in
    let euis = c.loop-subnet.euis in
    let rest = drop (i + 1) subnets in
    let ahead = at_drop_more (λ ss. euis ++ take (most - length euis) (all_euis mac ss)) subnets i s c.loop-subnet-test.true
    ∙ ap (λ (t : SubnetRow). euis ++ take (most - length euis) (all_euis mac (t ∷ rest))) (sym c.subnet-item.is) in
    elim c.if-is_eui.branch [
      | then-is_eui+in_ok-push w ↦
          let is : is_eui s ≡ true = ap is_eui (sym c.deref.ensures) ∙ (sym c.is_eui.ensures ∙ w.if-is_eui.true) in
          let differs : length euis ≡ most → ⊥ = λ e. c.if-len-most.false (c.len.ensures ∙ e) in
          let less : length euis < most = omega (arith, c.loop-subnet.invariant.few, differs) in
          let pushed : c.if-is_eui.euis ≡ euis ++ eui_fixed mac s ∷ [] =
          w.euis-is ∙ (w.in_ok-push.ensures.ok
          ∙ (λ j. euis ++ record { subnet = (w.deref-then-is_eui.ensures j).id; address = (w.eui_of.ensures ∙ ap (λ (t : SubnetRow). (eui_fixed mac t).address) w.deref-then-is_eui-2.ensures) j } ∷ [])) in
          record {
            few = subst (λ xs. length xs ≤ most) (sym pushed) (omega (arith, length_last euis (eui_fixed mac s), less));
            all = (λ j. pushed j ++ take (most - length (pushed j)) (all_euis mac rest)) ∙ (one_more mac s rest euis most is less ∙ (sym ahead ∙ c.loop-subnet.invariant.all));
          }
      | else-is_eui w ↦
          let is : is_eui s ≡ false = ap is_eui (sym c.deref.ensures) ∙ (sym c.is_eui.ensures ∙ w.if-is_eui.false) in
          record {
            few = subst (λ (xs : List Fixed). length xs ≤ most) (sym w.euis-is) c.loop-subnet.invariant.few;
            all = ap (λ (xs : List Fixed). xs ++ take (most - length xs) (all_euis mac rest)) w.euis-is ∙ (none_more mac s rest euis most is ∙ (sym ahead ∙ c.loop-subnet.invariant.all));
          }
    ]
