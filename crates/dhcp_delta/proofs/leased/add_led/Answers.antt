use Rattle.std.proofs.Common.{◌≡◌, ◌∙◌, ◌++◌, ap, false, sym}
use Rattle.std.proofs.lemmas.List.{append-nil}
use Rattle.std.specs.HashSet.{contains}
use Rattle.api_types.specs.Ident.{Ident}
use Rattle.api_types.specs.Table.{ident_eq}
use Rattle.dhcp_delta.specs.Serving.{is_led, is_served}
use Rattle.dhcp_delta.proofs.LedLemmas.{led_by_none, no_numbers, none_of_none}
use Rattle.dhcp_delta.proofs.leased.add_led.Goals as goal

pub returns-then-is_empty-2 : goal.returns-then-is_empty-2
returns-then-is_empty-2 c =
    let numbers = c.args.numbers.now.items in
    let change = c.args.servers.now.change.now in
    let served = is_served change.before.now change.after.now change.host.now in
    let networks = c.args.networks.now in
    let subnets = c.args.subnets.now in
    let none_n : (i : Ident) → contains ident_eq networks i ≡ false = λ i. none_of_none (ident_eq i) networks.keys (c.is_empty.ensures.0 c.if-is_empty.true) in
    let none_s : (i : Ident) → contains ident_eq subnets i ≡ false = λ i. none_of_none (ident_eq i) subnets.keys (c.is_empty-then-is_empty.ensures.0 c.if-is_empty-2.true) in
    sym (ap (λ ns. numbers ++ ns) (no_numbers (is_led served (contains ident_eq networks) (contains ident_eq subnets)) (led_by_none served (contains ident_eq networks) (contains ident_eq subnets) none_n none_s) 0 change.ports.rows) ∙ append-nil numbers)
