use Rattle.std.proofs.Common.{◌≡◌, ◌∙◌, None, Some, ap, find, rules, sym}
use Rattle.std.specs.Prelude.{option_copied}
use Rattle.plane_laws.proofs.ListLemmas.{find-passes}
use Rattle.table_edits.specs.NumbersSeen.{at_after}
use Rattle.dhcp_delta.specs.Serving.{serves_any}
use Rattle.dhcp_delta.proofs.ServerLemmas.{Stays, made_serves, none_serves, stays_serving, touched_goes}
use Rattle.dhcp_delta.proofs.servers.Servers.after.Goals as goal

pub returns-in-Some : goal.returns-in-Some
returns-in-Some c =
    let self = c.args.self.now in
    let change = self.change.now in
    let n = c.args.network in
    let s : Stays change.before.now change.after.now change.items.now change.ports self.touched.now =
    record { leads_on = change.leads_on; numbered = change.numbered; own_ids = c.rows-own_ids.ensures.own_ids; stay = self.stay; live = self.live } in
    let k = c.in-Some.number.now in
    let found : find (λ k. serves_any change.after.now change.host.now n (at_after change.ports k)) self.touched.now ≡ Some k =
    sym (self.listed n) ∙ sym c.get.ensures.value ∙ ap option_copied c.in-Some.is in
    c.row_after.ensures
    ∙ made_serves change.before.now change.after.now change.items.now change.ports self.touched.now s change.host.now n k
    (find-passes (λ k. serves_any change.after.now change.host.now n (at_after change.ports k)) self.touched.now k found)

pub returns-in_err-number : goal.returns-in_err-number
returns-in_err-number c =
    let self = c.args.self.now in
    let change = self.change.now in
    let n = c.args.network in
    let s : Stays change.before.now change.after.now change.items.now change.ports self.touched.now =
    record { leads_on = change.leads_on; numbered = change.numbered; own_ids = c.rows-own_ids.ensures.own_ids; stay = self.stay; live = self.live } in
    let none : find (λ k. serves_any change.after.now change.host.now n (at_after change.ports k)) self.touched.now ≡ None =
    sym (self.listed n) ∙ sym c.get.ensures.value ∙ ap option_copied c.in_default.is in
    let gone : c.number_before.result ≡ None = search rules in
    let nothing : option_copied c.from_residual.result ≡ None = search rules in
    nothing ∙ sym (none_serves change.before.now change.after.now change.items.now change.ports self.touched.now s change.host.now n none (sym c.number_before.ensures ∙ gone))

pub returns-then-is_among : goal.returns-then-is_among
returns-then-is_among c =
    let self = c.args.self.now in
    let change = self.change.now in
    let n = c.args.network in
    let s : Stays change.before.now change.after.now change.items.now change.ports self.touched.now =
    record { leads_on = change.leads_on; numbered = change.numbered; own_ids = c.rows-own_ids.ensures.own_ids; stay = self.stay; live = self.live } in
    let none : find (λ k. serves_any change.after.now change.host.now n (at_after change.ports k)) self.touched.now ≡ None =
    sym (self.listed n) ∙ sym c.get.ensures.value ∙ ap option_copied c.in_default.is in
    let got : c.number_before.result ≡ Some c.in_ok-number.number = search rules in
    sym (touched_goes change.before.now change.after.now change.items.now change.ports self.touched.now s change.host.now n none c.in_ok-number.number
    (sym c.number_before.ensures ∙ got) (sym c.is_among.ensures ∙ c.if-is_among.true))

pub returns : goal.returns
returns c =
    let self = c.args.self.now in
    let change = self.change.now in
    let n = c.args.network in
    let s : Stays change.before.now change.after.now change.items.now change.ports self.touched.now =
    record { leads_on = change.leads_on; numbered = change.numbered; own_ids = c.rows-own_ids.ensures.own_ids; stay = self.stay; live = self.live } in
    let got : c.number_before.result ≡ Some c.in_ok-number.number = search rules in
    c.row.ensures
    ∙ stays_serving change.before.now change.after.now change.items.now change.ports self.touched.now s change.host.now n c.in_ok-number.number
    (sym c.number_before.ensures ∙ got) (sym c.is_among.ensures ∙ c.if-is_among.false)
