-- What the choice of a port's addresses comes to, step by step.
use Rattle.std.proofs.Common.{◌≡◌, ◌∙◌, ℕ, true, not, Option, Some, None, List, Result, Ok, Err, ap, find, inr, option_map, sym}
use Rattle.std.specs.Prelude.{IfErr, IfOk}
use Rattle.net_addr.specs.declared.address.Addr.{Addr}
use Rattle.api_types.specs.Ident.{Ident}
use Rattle.api_types.specs.declared.port.Fixed.{Fixed}
use Rattle.api_types.specs.declared.port.PortRow.{PortRow}
use Rattle.api_types.specs.declared.subnet.SubnetRow.{SubnetRow}
use Rattle.api_ipam.specs.Choosing.{IsRefusalOf, choice_of, chosen_for, fixed_so, held_by, is_placed_so, known_so}
use Rattle.api_ipam.specs.FixedChoice.{is_in}
use Rattle.api_ipam.specs.declared.choosing.IpamRefusal.TheVariants.{AddressInUse, PoolsSpent}
use Rattle.api_ipam.specs.declared.choosing.IpamRefusal.{IpamRefusal}
use Rattle.api_ipam.specs.declared.choosing.Wanted.{Wanted}

module _ (ports : List PortRow) (subnets : List SubnetRow) (network : Ident) (mac : ℕ) (port : Option PortRow) (wanted : Wanted) (held known : List Addr)
    (placed : is_placed_so subnets mac port wanted ≡ true) (are_held : (x : Addr) → is_in held x ≡ held_by ports network port x) (are_known : known ≡ known_so subnets mac port wanted) where
  abbrev all : Option (List Fixed)
  all = fixed_so (λ x. not (is_in held x)) subnets mac port wanted

  by_parts : chosen_for ports subnets network mac port wanted ≡ choice_of network true (find (is_in held) known) all
  by_parts = λ j. choice_of network (placed j) (find (λ x. sym (are_held x) j) (sym are_known j)) (fixed_so (λ x. not (sym (are_held x) j)) subnets mac port wanted)

  pub one_held : (e : IpamRefusal) → option_map AddressInUse (find (is_in held) known) ≡ Some e → chosen_for ports subnets network mac port wanted ≡ Err e
  one_held e is = by_parts ∙ by (find (is_in held) known) is
    where
      by : (o : Option Addr) → option_map AddressInUse o ≡ Some e → choice_of network true o all ≡ Err e
      by None h = cc
      by (Some x) h = cc

  module _ (free : find (is_in held) known ≡ None) (fixed : Option (List Fixed)) (are_fixed : fixed ≡ all) where
    abbrev last : Option (List Fixed) → Result (List Fixed) IpamRefusal
    last o = choice_of network true None o

    then_last : chosen_for ports subnets network mac port wanted ≡ last fixed
    then_last = by_parts ∙ (λ j. choice_of network true (free j) (sym are_fixed j))

    pub all_there : (r : Result (List Fixed) IpamRefusal) → IfOk r (λ list. fixed ≡ Some list) → IfOk r (λ list. chosen_for ports subnets network mac port wanted ≡ Ok list)
    all_there (Ok list) h = then_last ∙ ap last h
    all_there (Err e) h = h

    pub pools_spent : (r : Result (List Fixed) IpamRefusal) → IfErr r (λ e. (fixed ≡ None) × (e ≡ PoolsSpent network)) → IfErr r (IsRefusalOf (chosen_for ports subnets network mac port wanted))
    pools_spent (Ok list) h = h
    pools_spent (Err e) h = inr (then_last ∙ (ap last h.0 ∙ ap Err (sym h.1)))
