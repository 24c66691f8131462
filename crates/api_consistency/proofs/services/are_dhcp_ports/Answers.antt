use Rattle.std.proofs.Common.{◌≡◌, ◌≤◌, ◌∙◌, true, sym}
use Rattle.std.specs.Prelude.{count_by}
use Rattle.std.specs.List.{list_all}
use Rattle.std.proofs.lemmas.Result.{IfOk-weaker}
use Rattle.api_types.specs.Ident.{Ident}
use Rattle.api_types.specs.Owners.{is_dhcp_of}
use Rattle.api_types.specs.Consistent.Services.{DhcpPortsServe}
use Rattle.api_types.proofs.ListLemmas.{and_both}
use Rattle.api_consistency.specs.Keys.{is_subnet_leased, serves_dhcp}
use Rattle.api_consistency.proofs.DhcpLemmas.{dhcp_ports}
use Rattle.api_consistency.proofs.services.are_dhcp_ports.Goals as goal

pub returns : goal.returns
returns c =
    let rows = c.args.known.now in
    let both = and_both (list_all (is_subnet_leased rows.ports) rows.subnets) (list_all (serves_dhcp rows.subnets) rows.ports) (sym c.are_dhcp_served.ensures ∙ c.if-not-are_dhcp_served.false) in
    IfOk-weaker c.are_dhcp_once.result (λ b. b ≡ true → (network : Ident) → count_by (is_dhcp_of network) rows.ports ≤ 1)
    (λ b. b ≡ true → DhcpPortsServe rows.networks rows.subnets rows.ports)
    (λ b once h. dhcp_ports rows.networks rows.subnets rows.ports (once h) both.0 both.1) c.are_dhcp_once.ensures
