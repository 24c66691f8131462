-- All arithmetic on addresses that calls use, over addresses of both versions. What a prefix
-- contains, its host addresses, which prefixes overlap, and the address that a MAC gives stand in
-- `net_addr`.
use Rattle.api_types.specs.Consistent.InForm.{all_apart}
use Rattle.api_types.specs.Least.{least_from}
use Rattle.api_types.specs.Lists.{if_some}
use Rattle.net_addr.specs.Addresses.{number, with_number}
use Rattle.net_addr.specs.Ordered.{addr_before}
use Rattle.net_addr.specs.Prefixes.{Prefix, Span, host_addresses, is_host_of}
use Rattle.net_addr.specs.Spans.{is_within}
use Rattle.net_addr.specs.declared.address.Addr.{Addr}
use Rattle.std.specs.List.{list_all}
use Rattle.std.specs.Prelude.{Bool, List, None, Option, Some, [], flat_map, if◌then◌else◌, nat_le, not, option_map, option_to_list, ℕ, ◌&&◌, ◌++◌, ◌+◌, ◌-◌, ◌∷◌}

-- the gateway of a subnet for which none is named
abbrev pub default_gateway : Prefix → Addr
default_gateway p = with_number p.base (number p.base + 1)

-- the span from one number to another, of an address's version, or none
abbrev pub span : Addr → ℕ → ℕ → List Span
span x first last =
    if nat_le first last
    then record { first = with_number x first; last = with_number x last } ∷ []
    else []

-- a span without an address
abbrev pub span_without : Addr → Span → List Span
span_without x s =
    if is_within s x
    then span s.first (number s.first) (number x - 1)
    ++ span s.first (number x + 1) (number s.last)
    else s ∷ []

-- the maximal spans of host addresses without the gateway
abbrev pub default_pools : Prefix → Option Addr → List Span
default_pools p None = option_to_list (host_addresses p)
default_pools p (Some gateway) =
    flat_map (span_without gateway) (option_to_list (host_addresses p))

-- pools are spans of host addresses without the gateway, and no address is in two of them
abbrev pub is_pool : Prefix → Option Addr → Span → Bool
is_pool p gateway s =
    is_host_of p s.first && is_host_of p s.last && if_some (λ g. not (is_within s g)) gateway

abbrev pub are_pools : Prefix → Option Addr → List Span → Bool
are_pools p gateway pools = list_all (is_pool p gateway) pools && all_apart pools

-- the least address of a span that passes the test
abbrev pub least_within : (Addr → Bool) → Span → Option Addr
least_within test s =
    option_map (with_number s.first)
    (least_from (λ n. test (with_number s.first n)) (number s.first)
    (number s.last + 1 - number s.first))

abbrev pub lesser : Option Addr → Option Addr → Option Addr
lesser None other = other
lesser (Some x) None = Some x
lesser (Some x) (Some y) = Some (if addr_before y x then y else x)

-- the least address of the pools that is free
abbrev pub least_free_address : (Addr → Bool) → List Span → Option Addr
least_free_address free [] = None
least_free_address free (s ∷ pools) = lesser (least_within free s) (least_free_address free pools)
