use Rattle.std.proofs.Common.{◌≡◌, ◌∙◌, ◌++◌, List, ℕ, ap, sym}
use Rattle.std.specs.Prelude.{nat_lt}
use Rattle.std.specs.HashSet.{contains}
use Rattle.std.proofs.lemmas.Result.{IfOk-weaker}
use Rattle.api_types.specs.Table.{ident_eq}
use Rattle.table_edits.specs.EditsAt.{among}
use Rattle.touched_rows.specs.TouchedNumbers.{numbers_from}
use Rattle.dhcp_delta.specs.Serving.{is_led, is_served}
use Rattle.dhcp_delta.proofs.LedLemmas.{among_neither, leases_stay}
use Rattle.dhcp_delta.proofs.ServerLemmas.{Stays}
use Rattle.dhcp_delta.proofs.leased.leased_ports.Goals as goal

pub returns-clause-untouched : goal.returns-clause-untouched
returns-clause-untouched c =
    let servers = c.args.servers.now in
    let change = servers.change.now in
    let touched = servers.touched.now in
    let networks = contains ident_eq c.in_ok-networks.networks in
    let subnets = contains ident_eq c.in_ok-subnets.subnets in
    let led = numbers_from (is_led (is_served change.before.now change.after.now change.host.now) networks subnets) 0 change.ports.rows in
    let all : c.add_led.new.numbers.items ≡ touched ++ led = c.in_ok-add_led.ensures ∙ ap (λ (ns : List ℕ). ns ++ led) c.in_ok-numbers.ensures.items in
    let s : Stays change.before.now change.after.now change.items.now change.ports touched =
    record { leads_on = change.leads_on; numbered = change.numbered; own_ids = c.rows-own_ids.ensures.own_ids; stay = servers.stay; live = servers.live } in
    IfOk-weaker c.descending.result _ _ (λ ks same k away.
    let neither = among_neither k touched led (ap (among nat_lt k) (sym all) ∙ sym (same k) ∙ away) in
    leases_stay change.before.now change.after.now change.items.now change.ports touched s change.host.now change.old change.new servers.tag networks subnets
    c.in_ok-networks.ensures c.in_ok-subnets.ensures k neither.0 neither.1) c.descending.ensures.same
