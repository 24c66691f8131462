use Rattle.std.proofs.Common.{◌≡◌, ◌∙◌, None, ap, rules}
use Rattle.std.specs.HashMap.{get}
use Rattle.std.specs.Map.{lookup}
use Rattle.api_types.specs.Table.{ident_eq}
use Rattle.dvr_agent.proofs.NumberLemmas.{numbers-near, with_ports}
use Rattle.dvr_agent.proofs.networks.near_numbers.Goals as goal

pub loop-port-init : goal.loop-port-init
loop-port-init c n =
    let none : get ident_eq c.new-numbers.result n ≡ None = ap (lookup (ident_eq n)) c.new-numbers.ensures.empty in
    let ports : c.rows-port-items.result.now ≡ c.args.rows.now.ports = search rules in
    ap (λ o. with_ports c.args.rows.now n o c.rows-port-items.result.now) none
    ∙ ap (with_ports c.args.rows.now n None) ports
    ∙ numbers-near c.args.rows.now n
