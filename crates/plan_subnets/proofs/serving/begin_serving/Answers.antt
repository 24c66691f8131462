use Rattle.std.proofs.Common.{◌≡◌, ◌∙◌, ◌&&◌, ◌++◌, ◌∷◌, [], Bool, IfOk, List, None, Option, ap, false, option_map, refl, subst, sym, true}
use Rattle.std.specs.Prelude.{Some, is_none}
use Rattle.api_types.specs.Ident.{Ident}
use Rattle.api_types.specs.Registration.{ident}
use Rattle.api_types.specs.RowLists.{RowLists}
use Rattle.api_types.specs.Table.{row_of}
use Rattle.api_types.specs.declared.kind.Row.TheVariants.{Port}
use Rattle.api_types.specs.declared.port.Fixed.{Fixed}
use Rattle.api_types.specs.declared.port.PortRow.{PortRow}
use Rattle.call_parts.specs.Drafts.{DraftParts}
use Rattle.call_parts.specs.Edits.{Add, Edit, edited, made}
use Rattle.plan_subnets.specs.DhcpUpkeep.{begin_serving, dhcp_port_on, makes_dhcp_port, new_dhcp_port, serving}
use Rattle.plan_subnets.proofs.serving.begin_serving.Goals as goal

unmapped : {R S : Type 0} (f : R → S) (o : Option R) → option_map f o ≡ None → o ≡ None
unmapped f None h = refl
unmapped f (Some r) h = cc

makes_one : (ports : List PortRow) (network : Ident) (begins : Bool) → begins ≡ true → dhcp_port_on ports network ≡ None → makes_dhcp_port ports network begins ≡ true
makes_one ports network begins is none = λ j. is j && is_none (none j)

-- where nothing is found with one address more, there is no DHCP port
absent : (ports found : List PortRow) (network : Ident) (f : Fixed) (o : Option PortRow) → found ≡ ports
    → o ≡ option_map (λ (p : PortRow). record p { fixed = p.fixed ++ f ∷ [] }) (dhcp_port_on found network) → o ≡ None → dhcp_port_on ports network ≡ None
absent ports found network f o same is none =
    unmapped _ _ (sym (is ∙ ap (λ (ps : List PortRow). option_map (λ (p : PortRow). record p { fixed = p.fixed ++ f ∷ [] }) (dhcp_port_on ps network)) same) ∙ none)

pub add-requires : goal.add-requires
add-requires c =
    let rows : RowLists = c.args.draft.rows in
    let rows_are = c.rows.ensures ∙ ap (λ (d : DraftParts). d.rows) c.in_ok-settled.ensures in
    let none = absent rows.ports c.rows.result.now.ports c.args.network.now.id c.args.fixed c.in_ok-port.field-0 (ap (λ (r : RowLists). r.ports) rows_are) c.in_ok-port.ensures c.in-None.is in
    let settled = ap (λ (d : DraftParts). d.rows) (c.settled.view_is ∙ c.in_ok-settled.ensures) in
    let port = c.in_ok-new_dhcp_port-in-None.field-0 in
    let id_is = ap (λ (p : PortRow). p.id) c.in_ok-new_dhcp_port-in-None.ensures ∙ c.make-id.ensures in
    let new = c.requires.new (makes_one rows.ports c.args.network.now.id c.args.begins c.if-not-begins.false none) in
    record {
      new = subst (λ (r : RowLists). row_of (λ (p : PortRow). p.id) port.id r.ports ≡ None) (sym settled)
          (subst (λ (i : Ident). row_of (λ (p : PortRow). p.id) i rows.ports ≡ None) (sym id_is) new);
    }

pub returns-in_ok-new_dhcp_port-in-None-clause-rows : goal.returns-in_ok-new_dhcp_port-in-None-clause-rows
returns-in_ok-new_dhcp_port-in-None-clause-rows c =
    let rows : RowLists = c.args.draft.rows in
    let settings = c.args.settings.now in
    let n = c.args.network.now in
    let i : Ident = ident c.args.next.ordinal c.args.next.count in
    let rows_are = c.rows.ensures ∙ ap (λ (d : DraftParts). d.rows) c.in_ok-settled.ensures in
    let none = absent rows.ports c.rows.result.now.ports c.args.network.now.id c.args.fixed c.in_ok-port.field-0 (ap (λ (r : RowLists). r.ports) rows_are) c.in_ok-port.ensures c.in-None.is in
    let settled = ap (λ (d : DraftParts). d.rows) (c.settled.view_is ∙ c.in_ok-settled.ensures) in
    let port_is = c.in_ok-new_dhcp_port-in-None.ensures ∙ ap (λ (i : Ident). new_dhcp_port settings n i c.args.next.mac c.args.fixed) c.make-id.ensures in
    let edits : Add (Port (new_dhcp_port settings n i c.args.next.mac c.args.fixed)) ∷ [] ≡ begin_serving settings rows n c.args.begins i c.args.next.mac c.args.fixed =
    sym (ap (λ o. serving settings n o i c.args.next.mac c.args.fixed) none) ∙ by c.args.begins c.if-not-begins.false in
    subst (λ (r : RowLists). IfOk c.add.result (λ d. d.rows ≡ r)) ((λ j. edited (settled j) (Add (Port (port_is j)))) ∙ ap (made rows) edits) c.add.ensures.rows
  where
    by : (b : Bool) → b ≡ true → serving c.args.settings.now c.args.network.now (dhcp_port_on c.args.draft.rows.ports c.args.network.now.id) (ident c.args.next.ordinal c.args.next.count) c.args.next.mac c.args.fixed
        ≡ begin_serving c.args.settings.now c.args.draft.rows c.args.network.now b (ident c.args.next.ordinal c.args.next.count) c.args.next.mac c.args.fixed
    by true h = refl
    by false h = cc
