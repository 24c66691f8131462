use Rattle.std.proofs.Common.{◌≡◌, ◌∙◌, [], ap, map, sym}
use Rattle.std.specs.Prelude.{option_copied}
use Rattle.std.proofs.lemmas.Result.{IfOk-weaker}
use Rattle.api_types.specs.RouterRows.{legs_of}
use Rattle.dvr_types.specs.Copies.{copy_port}
use Rattle.dvr_agent.proofs.NamedLemmas.{listed, named_legs}
use Rattle.dvr_agent.proofs.routers.ports_of.Goals as goal

pub returns-in-Some : goal.returns-in-Some
returns-in-Some c =
    let rows = c.args.legs.now in
    let ports : map (λ p. p.now) c.as_slice.result.now ≡ legs_of rows c.args.router.now =
    ap (map (λ p. p.now)) c.as_slice.ensures.value
    ∙ ap (λ o. listed (option_copied o)) (sym c.in-Some.is)
    ∙ c.ports_of.ensures
    ∙ named_legs rows c.args.router.now c.as_str.result.now (c.as_str.ensures ∙ c.in_ok-name.ensures.text) in
    IfOk-weaker c.copy_ports.result _ _ (λ p h. h ∙ (λ j. map (copy_port (c.rows.ensures j)) (ports j))) c.copy_ports.ensures

pub returns : goal.returns
returns c =
    let rows = c.args.legs.now in
    let none : [] ≡ legs_of rows c.args.router.now =
    ap (λ o. listed (option_copied o)) (sym c.in-None.is)
    ∙ c.ports_of.ensures
    ∙ named_legs rows c.args.router.now c.as_str.result.now (c.as_str.ensures ∙ c.in_ok-name.ensures.text) in
    c.new.ensures ∙ ap (map (copy_port rows)) none
