use Rattle.std.proofs.Common.{◌≡◌, ◌∙◌, Bor, None, Option, Some, ap, false, refl, sym}
use Rattle.std.specs.Prelude.{◌||◌, is_some, option_copied}
use Rattle.dhcp_delta.specs.Serving.{dhcp_here}
use Rattle.dhcp_delta.proofs.ServerLemmas.{Stays, numbered_server}
use Rattle.dhcp_delta.proofs.servers.Servers.is_served.Goals as goal

copied_too : {X : Type 0} (o : Option (Bor X)) → is_some o ≡ is_some (option_copied o)
copied_too None = refl
copied_too (Some x) = refl

pub returns-else-is_some : goal.returns-else-is_some
returns-else-is_some c =
    let self = c.args.self.now in
    let change = self.change.now in
    let n = c.args.network in
    let s : Stays change.before.now change.after.now change.items.now change.ports self.touched.now =
    record { leads_on = change.leads_on; numbered = change.numbered; own_ids = c.rows-own_ids.ensures.own_ids; stay = self.stay; live = self.live } in
    let none : is_some (dhcp_here change.before.now change.host.now n) ≡ false =
    sym (numbered_server change.before.now change.after.now change.items.now change.ports self.touched.now s change.host.now n)
    ∙ ap is_some (sym c.number_before.ensures) ∙ sym c.is_some.ensures ∙ c.if-is_some.false in
    c.is_some-else-is_some.ensures ∙ copied_too c.after.result ∙ ap is_some c.after.ensures
    ∙ sym (ap (λ b. b || is_some (dhcp_here change.after.now change.host.now n)) none)
