use Rattle.std.proofs.Common.{◌≡◌, ◌∙◌, [], ap, map, sym}
use Rattle.std.specs.Prelude.{option_copied}
use Rattle.std.proofs.lemmas.Result.{IfOk-weaker}
use Rattle.api_types.specs.RouterRows.{legs_of, ways_of}
use Rattle.plane_rows.specs.Ways.{ways_by}
use Rattle.dvr_agent.proofs.NamedLemmas.{listed, named_legs}
use Rattle.dvr_agent.proofs.routes.ways.Goals as goal

pub returns-in-Some : goal.returns-in-Some
unfolding ways_of
returns-in-Some c =
    let router = c.args.router.now in
    let ports : map (λ p. p.now) c.as_slice.result.now ≡ legs_of c.args.legs.now router =
    ap (map (λ p. p.now)) c.as_slice.ensures.value
    ∙ ap (λ o. listed (option_copied o)) (sym c.in-Some.is)
    ∙ c.ports_of.ensures
    ∙ named_legs c.args.legs.now router c.as_str.result.now (c.as_str.ensures ∙ c.in_ok-name.ensures.text) in
    IfOk-weaker c.ways_by.result _ _ (λ v h. h ∙ (λ j. ways_by (c.rows.ensures j) (ports j) router)) c.ways_by.ensures

pub returns : goal.returns
unfolding ways_of
returns c =
    let router = c.args.router.now in
    let none : [] ≡ legs_of c.args.legs.now router =
    ap (λ o. listed (option_copied o)) (sym c.in-None.is)
    ∙ c.ports_of.ensures
    ∙ named_legs c.args.legs.now router c.as_str.result.now (c.as_str.ensures ∙ c.in_ok-name.ensures.text) in
    IfOk-weaker c.ways_by-in-None.result _ _ (λ v h. h ∙ (λ j. ways_by (c.rows-in-None.ensures j) (none j) router)) c.ways_by-in-None.ensures
