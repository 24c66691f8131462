use Rattle.std.proofs.Common.{◌∙◌, ap, find, not, sym}
use Rattle.api_ipam.specs.FixedChoice.{named_subnets}
use Rattle.api_types.specs.declared.kind.Kind.TheVariants.{Subnet}
use Rattle.plan_ports.specs.PortRules.{is_subnet_seen}
use Rattle.plan_ports.proofs.RefusalLemmas.{first_failing}
use Rattle.plan_ports.proofs.rules.ensure_subnets_seen.Goals as goal

pub returns-in-Some : goal.returns-in-Some
returns-in-Some c =
    let found = is_subnet_seen c.args.rows.now c.args.caller.now in
    first_failing Subnet found (named_subnets c.args.items.now) c.in-Some.id.now c.none_with_id.result
    (ap (find (λ i. not (found i))) (sym (c.as_slice.ensures ∙ c.in_ok-named.ensures)) ∙ sym c.in-Some.ensures) c.none_with_id.ensures
