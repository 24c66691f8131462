use Rattle.std.proofs.Common.{◌∙◌, not}
use Rattle.api_ipam.specs.Addresses.{least_free_address}
use Rattle.plan_subnets.proofs.lease.pool_address.Goals as goal

pub returns : goal.returns
returns c = c.least_free_address.ensures ∙ (λ j. least_free_address (λ x. not (c.in_ok-held.ensures x j)) (c.as_slice.ensures j))
