use Rattle.row_laws.proofs.Service.GatewayOn.{gateway_on}
use Rattle.row_laws.proofs.Service.GatewayOff.{gateway_off}
use Rattle.row_laws.proofs.Service.RouterOff.{router_off}
use Rattle.row_laws.proofs.gateway_edits_keep.Goals as goal

pub returns : goal.returns
returns c = record {
  on = λ rows place r p snat all at new. gateway_on rows place r p snat at new all;
  off = λ rows place r g all at free. gateway_off rows place r g at free all;
  gone = λ rows place r all at bare. router_off rows place r at bare all;
}
