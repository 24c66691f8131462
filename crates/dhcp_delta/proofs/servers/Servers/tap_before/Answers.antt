use Rattle.std.proofs.Common.{◌≡◌, ◌∙◌, None, Some, ap, rules, sym}
use Rattle.std.specs.Prelude.{option_copied}
use Rattle.plane_laws.proofs.FactsHold.{frame-facts}
use Rattle.plane_laws.proofs.SyncedHold.{host-facts}
use Rattle.plane_types.specs.TableStep.{bridge_at}
use Rattle.plane_types.specs.declared.table.BridgeKey.TheVariants.{Dhcp}
use Rattle.dhcp_delta.proofs.BridgeLemmas.{by_tag, tap_by}
use Rattle.dhcp_delta.proofs.servers.Servers.tap_before.Goals as goal

pub returns-in_err-tag : goal.returns-in_err-tag
returns-in_err-tag c =
    let change = c.args.self.now.change.now in
    let rows = change.before.now in
    let t = change.tables.now.lists in
    let gone : c.old_tag.result ≡ None = search rules in
    let nothing : c.from_residual.result ≡ None = search rules in
    nothing
    ∙ by_tag rows change.host.now t (host-facts rows change.host.now t change.realised) (frame-facts rows change.leads_on.consistent) c.args.network
    change.old change.had None (sym c.old_tag.ensures ∙ gone)

pub returns-in_err-entry : goal.returns-in_err-entry
returns-in_err-entry c =
    let change = c.args.self.now.change.now in
    let rows = change.before.now in
    let t = change.tables.now.lists in
    let tag = c.in_ok-tag.tag in
    let has : c.old_tag.result ≡ Some tag = search rules in
    let gone : c.bridge_at.result ≡ None = search rules in
    let nothing : c.from_residual-in_err-entry.result ≡ None = search rules in
    let absent : bridge_at t tag Dhcp ≡ None = sym c.bridge_at.ensures ∙ ap option_copied gone in
    nothing
    ∙ sym (ap (tap_by rows change.host.now t (host-facts rows change.host.now t change.realised) (frame-facts rows change.leads_on.consistent) c.args.network) absent)
    ∙ by_tag rows change.host.now t (host-facts rows change.host.now t change.realised) (frame-facts rows change.leads_on.consistent) c.args.network
    change.old change.had (Some tag) (sym c.old_tag.ensures ∙ has)

pub returns : goal.returns
returns c =
    let change = c.args.self.now.change.now in
    let rows = change.before.now in
    let t = change.tables.now.lists in
    let tag = c.in_ok-tag.tag in
    let has : c.old_tag.result ≡ Some tag = search rules in
    let got : c.bridge_at.result ≡ Some c.in_ok-entry.entry = search rules in
    let there : bridge_at t tag Dhcp ≡ Some c.in_ok-entry.entry.now = sym c.bridge_at.ensures ∙ ap option_copied got in
    c.tap_of.ensures
    ∙ sym (ap (tap_by rows change.host.now t (host-facts rows change.host.now t change.realised) (frame-facts rows change.leads_on.consistent) c.args.network) there)
    ∙ by_tag rows change.host.now t (host-facts rows change.host.now t change.realised) (frame-facts rows change.leads_on.consistent) c.args.network
    change.old change.had (Some tag) (sym c.old_tag.ensures ∙ has)
