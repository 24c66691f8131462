use Rattle.std.proofs.Common.{◌∙◌, List, Result, ap, subst, sym}
use Rattle.std.specs.Prelude.{IfErr}
use Rattle.api_types.specs.HeldAddresses.{subnets_on}
use Rattle.api_types.specs.Lists.{Pass}
use Rattle.api_types.specs.declared.port.Fixed.{Fixed}
use Rattle.api_ipam.specs.Choosing.{IsRefusalOf, chosen_for, holder}
use Rattle.api_ipam.specs.Euis.{fits_eui}
use Rattle.api_ipam.specs.declared.choosing.IpamRefusal.{IpamRefusal}
use Rattle.api_ipam.proofs.EuiLemmas.{fits_on}
use Rattle.api_ipam.proofs.choosing.choose.Goals as goal

pub choose_for-requires : goal.choose_for-requires
choose_for-requires c =
    let network = c.args.network in
    let same = c.as_slice-2.ensures ∙ (c.in_ok-subnets.ensures ∙ ap (λ ss. subnets_on ss network) (c.rows.ensures.rows ∙ c.subnets.ensures)) in
    subst (Pass fits_eui) (sym same) (fits_on c.args.rows.now network c.requires)

pub returns-clause-err : goal.returns-clause-err
returns-clause-err c =
    let network = c.args.network in
    let same = c.as_slice-2.ensures ∙ (c.in_ok-subnets.ensures ∙ ap (λ ss. subnets_on ss network) (c.rows.ensures.rows ∙ c.subnets.ensures)) in
    let ports = c.rows-ports.ensures.rows ∙ c.ports.ensures in
    let port = c.holder-port.ensures ∙ (λ j. holder (ports j) network (c.as_slice.ensures j)) in
    subst (λ (r : Result (List Fixed) IpamRefusal). IfErr c.choose_for.result (IsRefusalOf r)) (λ j. chosen_for (ports j) (same j) network c.args.mac (port j) c.args.wanted.now) c.choose_for.ensures.err
