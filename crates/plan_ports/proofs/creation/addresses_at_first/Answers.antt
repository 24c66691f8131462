use Rattle.std.proofs.Common.{◌∙◌, inr, refl, sym}
use Rattle.std.specs.Prelude.{not}
use Rattle.api_ipam.specs.FixedChoice.{first_addresses, is_in}
use Rattle.plan_ports.proofs.creation.addresses_at_first.Goals as goal

pub returns-clause-spent : goal.returns-clause-spent
returns-clause-spent c =
    let supply = c.args.supply in
    let none = (λ j. first_addresses (λ x. not (is_in supply.held x)) (sym c.as_slice.ensures j) supply.mac c.args.form.now.fixed_ips) ∙ (sym c.in_ok-fixed.ensures ∙ c.in-None.is) in
    inr (refl, none)
