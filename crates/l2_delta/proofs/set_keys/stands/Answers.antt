use Rattle.std.proofs.Common.{◌≡◌, ◌∙◌, Some, ap, false, map, sym, true}
use Rattle.std.specs.Prelude.{◌||◌}
use Rattle.l2_delta.specs.SetKeys.{is_given}
use Rattle.l2_delta.proofs.SetPorts.{given_is}
use Rattle.l2_delta.proofs.set_keys.stands.Goals as goal

pub returns-then-is_given : goal.returns-then-is_given
returns-then-is_given c =
    let g = c.args.group in
    let p = c.args.prefix.now in
    let given : is_given (map (λ p. p.now) c.args.are.now) (Some g) p ≡ true = given_is g p (map (λ p. p.now) c.args.are.now) ∙ (sym c.is_given.ensures ∙ c.if-is_given.true) in
    c.if-is_given.true ∙ sym (ap (λ b. b || is_given c.args.ports.now (Some g) p) given)

pub returns-else-is_given : goal.returns-else-is_given
returns-else-is_given c =
    let g = c.args.group in
    let p = c.args.prefix.now in
    let given : is_given (map (λ p. p.now) c.args.are.now) (Some g) p ≡ false = given_is g p (map (λ p. p.now) c.args.are.now) ∙ (sym c.is_given.ensures ∙ c.if-is_given.false) in
    c.is_member.ensures ∙ sym (given_is g p c.args.ports.now) ∙ sym (ap (λ b. b || is_given c.args.ports.now (Some g) p) given)
