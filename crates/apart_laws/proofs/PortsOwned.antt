-- Ports of a project come, change and go, and nothing of others does.
use Rattle.api_types.specs.Ident.{Ident}
use Rattle.api_types.specs.RowLists.{RowLists}
use Rattle.api_types.specs.Table.{ident_eq}
use Rattle.api_types.specs.WithRows.{gone_from, put_in, with_put, without_row}
use Rattle.api_types.specs.declared.kind.Kind.TheVariants.{Port as PortKind}
use Rattle.api_types.specs.declared.kind.Row.TheVariants.{Port}
use Rattle.api_types.specs.declared.port.PortRow.{PortRow}
use Rattle.apart_laws.proofs.Filtered.{one_pushed, others_gone, others_put}
use Rattle.apart_laws.proofs.Steps.{AreOwn, Spares, no_port_of_others, own_port, with_ports}
use Rattle.apart_laws.specs.Others.{is_port_of_others}
use Rattle.std.proofs.Common.{List, true, ◌++◌, ◌∷◌, ◌≡◌, [], ℕ}
use Rattle.std.specs.Str.{bytes_eq}

-- a port of the project in place of one
pub port_put_spares : (project : List ℕ) (rows : RowLists) (p : PortRow) → bytes_eq p.project project ≡ true → AreOwn (λ (q : PortRow). q.id) (λ (q : PortRow). q.project) project p.id rows.ports
    → Spares project rows (with_put rows (Port p))
port_put_spares project rows p own are = with_ports project rows (put_in (λ (q : PortRow). q.id) p rows.ports)
    (others_put (is_port_of_others project rows) (λ (q : PortRow). ident_eq p.id q.id) p rows.ports (own_port project rows p own) (no_port_of_others project rows p.id rows.ports are))

pub port_gone_spares : (project : List ℕ) (rows : RowLists) (i : Ident) → AreOwn (λ (q : PortRow). q.id) (λ (q : PortRow). q.project) project i rows.ports
    → Spares project rows (without_row rows PortKind i)
port_gone_spares project rows i are = with_ports project rows (gone_from (λ (q : PortRow). q.id) i rows.ports)
    (others_gone (is_port_of_others project rows) (λ (q : PortRow). ident_eq i q.id) rows.ports (no_port_of_others project rows i rows.ports are))

pub port_added_spares : (project : List ℕ) (rows : RowLists) (p : PortRow) → bytes_eq p.project project ≡ true → Spares project rows (record rows { ports = rows.ports ++ p ∷ [] })
port_added_spares project rows p own = with_ports project rows (rows.ports ++ p ∷ []) (one_pushed (is_port_of_others project rows) rows.ports p (own_port project rows p own))
