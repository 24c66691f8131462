use Rattle.std.proofs.Common.{◌∙◌, inr, refl, sym}
use Rattle.std.specs.Prelude.{not}
use Rattle.api_ipam.specs.FixedChoice.{next_addresses, is_in}
use Rattle.plan_ports.proofs.update.addresses_after.Goals as goal

pub returns-clause-spent : goal.returns-clause-spent
returns-clause-spent c =
    let supply = c.args.supply in
    let none = (λ j. next_addresses (λ x. not (is_in supply.held x)) (sym c.as_slice.ensures j) c.args.port.now supply.mac c.args.form.now.fixed_ips) ∙ (sym c.in_ok-fixed.ensures ∙ c.in-None.is) in
    inr (refl, none)
