use Rattle.std.proofs.Common.{◌≡◌, ◌≤◌, ◌∙◌, true, sym}
use Rattle.std.specs.Prelude.{◌||◌, not, count_by}
use Rattle.std.specs.List.{list_all}
use Rattle.std.proofs.lemmas.Result.{IfOk-weaker}
use Rattle.api_types.specs.Ident.{Ident}
use Rattle.api_types.specs.Table.{ident_eq}
use Rattle.api_types.specs.Lists.{stands_so}
use Rattle.api_types.specs.Consistent.Named.{is_own_port}
use Rattle.api_types.specs.Consistent.Services.{is_port_for, OwnPortsServe}
use Rattle.api_types.specs.declared.floating.FloatingRow.{FloatingRow}
use Rattle.api_types.specs.declared.port.PortRow.{PortRow}
use Rattle.api_types.proofs.ListLemmas.{and_both}
use Rattle.api_types.proofs.NameLemmas.{all-at}
use Rattle.api_consistency.proofs.floating.are_own_ports.Goals as goal

pub returns : goal.returns
returns c =
    let rows = c.args.known.now in
    let both = and_both (list_all (λ (f : FloatingRow). stands_so (λ p. p.id) f.own_port (is_port_for f) rows.ports) rows.floatings)
    (list_all (λ (p : PortRow). not (is_own_port rows.floatings p.id) || not p.secured) rows.ports) (sym c.are_served.ensures ∙ c.if-not-are_served.false) in
    IfOk-weaker c.are_own_ports_once.result (λ b. b ≡ true → (i : Ident) → count_by (λ (f : FloatingRow). ident_eq i f.own_port) rows.floatings ≤ 1)
    (λ b. b ≡ true → OwnPortsServe rows.ports rows.floatings)
    (λ b once h. record {
      once = once h;
      there = all-at (λ (f : FloatingRow). stands_so (λ p. p.id) f.own_port (is_port_for f) rows.ports) rows.floatings both.0;
      unsecured = all-at (λ (p : PortRow). not (is_own_port rows.floatings p.id) || not p.secured) rows.ports both.1;
    }) c.are_own_ports_once.ensures
