use Rattle.std.proofs.Common.{◌≡◌, ◌+◌, ◌-◌, ◌≤◌, not}
use Rattle.net_addr.specs.Addresses.{number, with_number}
use Rattle.api_ipam.specs.FixedChoice.{is_in}
use Rattle.api_types.specs.Least.{least_from}
use Rattle.api_ipam.proofs.least.search_within.Given as goal

-- all from the first on are held, up to this one
abbrev pub invariant-loop-span : goal.invariant-loop-span
invariant-loop-span l = record {
  within : number l.span.first ≤ number l.address;
  to : number l.address ≤ number l.span.last;
  is : l.address ≡ with_number l.span.first (number l.address);
  sought : least_from (λ n. not (is_in l.held (with_number l.span.first n))) (number l.address) (number l.span.last + 1 - number l.address)
      ≡ least_from (λ n. not (is_in l.held (with_number l.span.first n))) (number l.span.first) (number l.span.last + 1 - number l.span.first);
}

abbrev pub decreases-loop-span : goal.decreases-loop-span
decreases-loop-span l = number l.span.last - number l.address
