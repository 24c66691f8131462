use Rattle.std.proofs.Common.{◌≡◌, ◌∙◌, None, Some, ap, rules, sym}
use Rattle.api_types.specs.Table.{place_of}
use Rattle.api_types.specs.declared.port.PortRow.{PortRow}
use Rattle.table_edits.specs.NumbersSeen.{Renumbered}
use Rattle.dhcp_delta.specs.Serving.{dhcp_here}
use Rattle.dhcp_delta.proofs.ServerLemmas.{place_by}
use Rattle.dhcp_delta.proofs.servers.Servers.number_before.Goals as goal

pub returns-in_err-port : goal.returns-in_err-port
returns-in_err-port c =
    let change = c.args.self.now.change.now in
    let gone : c.tap_before.result ≡ None = search rules in
    let nothing : c.from_residual.result ≡ None = search rules in
    nothing ∙ place_by change.before.now.ports (dhcp_here change.before.now change.host.now c.args.network) None (sym gone ∙ c.tap_before.ensures)

pub returns : goal.returns
returns c =
    let change = c.args.self.now.change.now in
    let got : c.tap_before.result ≡ Some c.in_ok-port.port = search rules in
    c.number.ensures
    ∙ ap (λ (ports : Renumbered PortRow). place_of (λ (p : PortRow). p.id) c.in_ok-port.port ports.rows) change.numbered
    ∙ place_by change.before.now.ports (dhcp_here change.before.now change.host.now c.args.network) (Some c.in_ok-port.port) (sym got ∙ c.tap_before.ensures)
