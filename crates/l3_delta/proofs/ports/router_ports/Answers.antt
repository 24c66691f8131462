use Rattle.std.proofs.Common.{◌≡◌, ◌∙◌, [], ap, map, sym}
use Rattle.std.specs.Prelude.{option_copied}
use Rattle.std.specs.List.{filter_map}
use Rattle.std.proofs.lemmas.Result.{IfOk-weaker}
use Rattle.api_types.specs.RouterRows.{legs_of}
use Rattle.plane_types.specs.TableRows.{tagged_by}
use Rattle.l3_delta.proofs.NamedLemmas.{listed, named_legs}
use Rattle.l3_delta.proofs.ports.router_ports.Goals as goal

pub returns-in-Some : goal.returns-in-Some
returns-in-Some c =
    let rows = c.args.legs.now in
    let ports : map (λ p. p.now) c.as_slice.result.now ≡ legs_of rows c.args.router.now =
    ap (map (λ p. p.now)) c.as_slice.ensures.value
    ∙ ap (λ o. listed (option_copied o)) (sym c.in-Some.is)
    ∙ c.ports_of.ensures
    ∙ named_legs rows c.args.router.now c.as_str.result.now (c.as_str.ensures ∙ c.in_ok-name.ensures.text) in
    IfOk-weaker c.rows_of_ports.result _ _ (λ p h. h ∙ (λ j. filter_map (tagged_by (c.rows.ensures j) c.args.tags.now) (ports j))) c.rows_of_ports.ensures

pub returns : goal.returns
returns c =
    let rows = c.args.legs.now in
    let none : [] ≡ legs_of rows c.args.router.now =
    ap (λ o. listed (option_copied o)) (sym c.in-None.is)
    ∙ c.ports_of.ensures
    ∙ named_legs rows c.args.router.now c.as_str.result.now (c.as_str.ensures ∙ c.in_ok-name.ensures.text) in
    c.new.ensures ∙ ap (filter_map (tagged_by rows c.args.tags.now)) none
