-- Edits one after the other, and ids that no port has.
use Rattle.std.proofs.Common.{◌≡◌, not, [], ◌∷◌, ◌++◌, Option, Some, None, refl}
use Rattle.api_types.specs.Ident.{Ident}
use Rattle.api_types.specs.RowLists.{RowLists}
use Rattle.api_types.specs.Table.{ident_eq, row_of}
use Rattle.api_types.specs.declared.kind.Row.TheVariants.{Router}
use Rattle.api_types.specs.declared.port.PortRow.{PortRow}
use Rattle.api_types.specs.declared.router.Gateway.{Gateway}
use Rattle.api_types.specs.declared.router.RouterRow.{RouterRow}
use Rattle.call_parts.specs.Edits.{Put, made}
use Rattle.plan_routers.specs.RouterCalls.{gateway_gone}
use Rattle.call_parts.proofs.AbsentLemmas.{absent_filtered}

pub append_none : (g : Option Gateway) → gateway_gone g ++ [] ≡ gateway_gone g
append_none None = refl
append_none (Some g) = refl

-- an id that no port has is none's where a router is put and the port of a gateway goes
pub absent_put : (i : Ident) (rows : RowLists) (r : RouterRow) (g : Option Gateway) → row_of (λ (p : PortRow). p.id) i rows.ports ≡ None
    → row_of (λ (p : PortRow). p.id) i (made rows (Put (Router r) ∷ gateway_gone g)).ports ≡ None
absent_put i rows r None none = none
absent_put i rows r (Some g) none = absent_filtered (λ (p : PortRow). p.id) i (λ (q : PortRow). not (ident_eq g.port q.id)) rows.ports none
