use Rattle.std.proofs.Common.{◌≡◌, ◌∙◌, [], ap, map, sym}
use Rattle.std.specs.Prelude.{option_copied}
use Rattle.std.proofs.lemmas.Result.{IfOk-weaker}
use Rattle.api_types.specs.RouterRows.{legs_of, ways_of}
use Rattle.plane_rows.specs.Ways.{ways_by}
use Rattle.l3_delta.proofs.NamedLemmas.{listed, named_legs}
use Rattle.l3_delta.proofs.routes.ways_of.Goals as goal

pub returns-in-Some : goal.returns-in-Some
unfolding ways_of
returns-in-Some c =
    let r = c.args.router.now in
    let held : map (λ p. p.now) c.as_slice.result.now ≡ legs_of c.args.legs.now r =
    ap (map (λ p. p.now)) c.as_slice.ensures.value
    ∙ ap (λ o. listed (option_copied o)) (sym c.in-Some.is)
    ∙ c.ports_of.ensures
    ∙ named_legs c.args.legs.now r c.as_str.result.now (c.as_str.ensures ∙ c.in_ok-name.ensures.text) in
    IfOk-weaker c.ways_by.result _ _ (λ v is. is ∙ (λ j. ways_by (c.rows.ensures j) (held j) r)) c.ways_by.ensures

pub returns : goal.returns
unfolding ways_of
returns c =
    let r = c.args.router.now in
    let none : [] ≡ legs_of c.args.legs.now r =
    ap (λ o. listed (option_copied o)) (sym c.in-None.is)
    ∙ c.ports_of.ensures
    ∙ named_legs c.args.legs.now r c.as_str.result.now (c.as_str.ensures ∙ c.in_ok-name.ensures.text) in
    IfOk-weaker c.ways_by-in-None.result _ _ (λ v is. is ∙ (λ j. ways_by (c.rows-in-None.ensures j) (none j) r)) c.ways_by-in-None.ensures
