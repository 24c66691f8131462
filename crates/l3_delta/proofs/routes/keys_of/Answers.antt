use Rattle.std.proofs.Common.{◌≡◌, ◌∙◌, ℕ, [], List, ap, map, sym}
use Rattle.std.specs.Prelude.{option_copied}
use Rattle.std.specs.List.{filter}
use Rattle.std.proofs.lemmas.Result.{IfOk-weaker}
use Rattle.api_types.specs.RouterRows.{is_leg_of, legs_of}
use Rattle.api_types.specs.declared.port.PortRow.{PortRow}
use Rattle.l3_delta.specs.WayKeys.{numbered_when, way_keys}
use Rattle.l3_delta.proofs.NamedLemmas.{listed, named_legs}
use Rattle.l3_delta.proofs.PortNumbers.{legs_stand, plain_when, rows_are}
use Rattle.l3_delta.proofs.WayLemmas.{plain_legs, way_keys_are}
use Rattle.l3_delta.proofs.routes.keys_of.Goals as goal

pub returns-in-Some : goal.returns-in-Some
returns-in-Some c =
    let change = c.args.change.now in
    let before = change.before.now in
    let after = change.after.now in
    let items = change.items.now in
    let when = c.args.when in
    let r = c.args.router.now in
    let n = numbered_when when before items in
    let rows : c.args.legs.now ≡ n.rows = c.requires ∙ rows_are before after items change.ports change.leads_on change.numbered when in
    let plain = plain_when before after items change.ports change.leads_on change.numbered when in
    let legs : List (ℕ × PortRow) = filter (λ (x : ℕ × PortRow). is_leg_of n.rows r x.1) n.ports in
    let held : map (λ p. p.now) c.as_slice.result.now ≡ legs_of c.args.legs.now r =
    ap (map (λ p. p.now)) c.as_slice.ensures.value
    ∙ ap (λ o. listed (option_copied o)) (sym c.in-Some.is)
    ∙ c.ports_of.ensures
    ∙ named_legs c.args.legs.now r c.as_str.result.now (c.as_str.ensures ∙ c.in_ok-name.ensures.text) in
    IfOk-weaker c.way_keys.result _ _
    (λ ks are.
    are legs (legs_stand before after items change.ports change.leads_on change.numbered when r)
    (plain_legs n r plain ∙ sym (held ∙ ap (λ rows. legs_of rows r) rows))
    ∙ ap (λ rows. way_keys rows legs r) (c.rows.ensures ∙ rows)
    ∙ sym (way_keys_are n r plain))
    c.way_keys.ensures

pub returns : goal.returns
returns c =
    let change = c.args.change.now in
    let before = change.before.now in
    let after = change.after.now in
    let items = change.items.now in
    let when = c.args.when in
    let r = c.args.router.now in
    let n = numbered_when when before items in
    let rows : c.args.legs.now ≡ n.rows = c.requires ∙ rows_are before after items change.ports change.leads_on change.numbered when in
    let plain = plain_when before after items change.ports change.leads_on change.numbered when in
    let legs : List (ℕ × PortRow) = filter (λ (x : ℕ × PortRow). is_leg_of n.rows r x.1) n.ports in
    let none : [] ≡ legs_of c.args.legs.now r =
    ap (λ o. listed (option_copied o)) (sym c.in-None.is)
    ∙ c.ports_of.ensures
    ∙ named_legs c.args.legs.now r c.as_str.result.now (c.as_str.ensures ∙ c.in_ok-name.ensures.text) in
    IfOk-weaker c.way_keys-in-None.result _ _
    (λ ks are.
    are legs (legs_stand before after items change.ports change.leads_on change.numbered when r)
    (plain_legs n r plain ∙ sym (none ∙ ap (λ rows. legs_of rows r) rows))
    ∙ ap (λ rows. way_keys rows legs r) (c.rows-in-None.ensures ∙ rows)
    ∙ sym (way_keys_are n r plain))
    c.way_keys-in-None.ensures
