use Rattle.std.proofs.Common.{◌≡◌, ◌∙◌, ◌+◌, ◌∷◌, Bool, Some, ap, drop, not, option_map, sym}
use Rattle.std.specs.Option.{option_or}
use Rattle.std.proofs.lemmas.List.{at_drop_more}
use Rattle.net_addr.specs.declared.address.Addr.{Addr}
use Rattle.api_types.specs.HeldAddresses.{fixed_at}
use Rattle.api_types.specs.declared.subnet.SubnetRow.{SubnetRow}
use Rattle.api_ipam.specs.Addresses.{least_free_address}
use Rattle.api_ipam.specs.FixedChoice.{first_free, is_in}
use Rattle.api_ipam.proofs.free.first_free.Goals as goal

pub returns-in-Some : goal.returns-in-Some
returns-in-Some c =
    let free : Addr → Bool = λ x. not (is_in c.args.held.now x) in
    let subnets = c.args.subnets.now in
    let i = c.loop-subnet.subnet-index in
    let s = c.subnet-item.result in
    let rest = drop (i + 1) subnets in
    let ahead = at_drop_more (first_free free) subnets i s c.loop-subnet-test.true ∙ ap (λ (t : SubnetRow). first_free free (t ∷ rest)) (sym c.subnet-item.is) in
    let found : Some c.in-Some.address ≡ least_free_address free s.pools =
    c.in-Some.ensures ∙ ap (least_free_address free) (c.as_slice.ensures ∙ ap (λ (t : SubnetRow). t.pools) c.deref.ensures) in
    (λ j. Some (record { subnet = (c.deref-in-Some.ensures j).id; address = c.in-Some.address }))
    ∙ ((λ j. option_or (option_map (fixed_at s.id) (found j)) (first_free free rest)) ∙ (sym ahead ∙ c.loop-subnet.invariant))
