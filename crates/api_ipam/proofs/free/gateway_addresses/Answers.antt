use Rattle.std.proofs.Common.{◌≡◌, ◌∙◌, Bool, List, Option, ap, not, subst}
use Rattle.std.specs.Prelude.{IfOk}
use Rattle.net_addr.specs.declared.address.Addr.{Addr}
use Rattle.api_types.specs.declared.port.Fixed.{Fixed}
use Rattle.api_ipam.specs.FixedChoice.{is_in, with_euis}
use Rattle.api_ipam.proofs.FreeLemmas.{some_gateway}
use Rattle.api_ipam.proofs.free.gateway_addresses.Goals as goal

pub returns : goal.returns
returns c =
    let free : Addr → Bool = λ x. not (is_in c.args.held.now x) in
    let subnets = c.args.subnets.now in
    let euis = c.as_slice.ensures ∙ c.in_ok-euis.ensures in
    subst (λ (o : Option (List Fixed)). IfOk c.with_euis.result (λ r. r ≡ o)) (ap (with_euis free subnets) euis ∙ some_gateway free subnets c.if-subnets-eq0.false c.args.mac) c.with_euis.ensures
