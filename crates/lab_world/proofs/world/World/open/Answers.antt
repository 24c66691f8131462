use Rattle.std.proofs.Common.{◌∙◌, ◌≡◌, List, [], map, refl, subst, sym}
use Rattle.api_types.specs.Consistent.{IsConsistent}
use Rattle.kept_laws.specs.Kept.{HostsCarry}
use Rattle.call_parts.specs.Typed.{AreTyped}
use Rattle.net_settings.specs.Rules.{MeetsRules}
use Rattle.plane_types.specs.Node.{Agent, agents_of, first_agent}
use Rattle.bus_core.specs.Kept.{Kept}
use Rattle.world_laws.specs.Lead.{IsWorld}
use Rattle.world_laws.specs.World.{first_world}
use Rattle.world_laws.proofs.StepLaw.{opened_stands}
use Rattle.lab_world.specs.Parts.{AreParts, world_seen}
use Rattle.lab_world.proofs.world.World.open.Goals as goal

pub invariant_of-result : goal.invariant_of-result
invariant_of-result c =
    let made = c.of-machine.ensures in
    let settings = c.args.settings in
    let settings_is = c.settings.ensures.value ∙ (λ j. (made j).settings) in
    let rows_is = c.rows.ensures.rows ∙ (λ j. (made j).rows) in
    let first : agents_of c.in_ok-hosts.hosts ≡ map (λ d. first_agent c.args.rows 0 d.name) settings.hosts =
    c.in_ok-hosts.ensures ∙ (λ j. map (λ d. first_agent (rows_is j) 0 d.name) ((c.hosts.ensures.value ∙ (λ k. (settings_is k).hosts)) j)) in
    let rules : MeetsRules settings = subst MeetsRules (λ j. (made j).settings) c.settings.ensures.rules in
    let consistent : IsConsistent c.args.rows = subst IsConsistent (λ j. (made j).rows) c.rows.ensures.consistent in
    let typed : AreTyped c.args.rows = subst AreTyped (λ j. (made j).rows) c.rows.ensures.typed in
    let carried : HostsCarry settings c.args.rows = subst (λ (m : _). HostsCarry m.settings m.rows) made c.rows.ensures.carried in
    let stands : AreParts settings c.args.rows 0 (record { last = 0; changes = [] }) c.in_ok-hosts.hosts c.args.manual = record {
      world = subst (λ (agents : List Agent). IsWorld (record (first_world settings c.args.manual c.args.rows) { agents = agents })) (sym first)
          (opened_stands settings c.args.manual c.args.rows rules (record { consistent = consistent; typed = typed; carried = carried }));
      numbered = refl;
    } in
    subst (λ (m : _). AreParts m.settings m.rows m.version c.in_ok-bus.bus c.in_ok-hosts.hosts c.args.manual) (sym made)
    (subst (λ (b : Kept). AreParts settings c.args.rows 0 b c.in_ok-hosts.hosts c.args.manual) (sym c.in_ok-bus.ensures) stands)

pub returns-clause-ok : goal.returns-clause-ok
returns-clause-ok c =
    let made = c.of-machine.ensures in
    let settings = c.args.settings in
    let settings_is = c.settings.ensures.value ∙ (λ j. (made j).settings) in
    let rows_is = c.rows.ensures.rows ∙ (λ j. (made j).rows) in
    let first : agents_of c.in_ok-hosts.hosts ≡ map (λ d. first_agent c.args.rows 0 d.name) settings.hosts =
    c.in_ok-hosts.ensures ∙ (λ j. map (λ d. first_agent (rows_is j) 0 d.name) ((c.hosts.ensures.value ∙ (λ k. (settings_is k).hosts)) j)) in
    (λ j. world_seen (made j).settings (made j).rows (made j).version (c.in_ok-bus.ensures j) c.in_ok-hosts.hosts c.args.manual)
    ∙ (λ j. record (first_world settings c.args.manual c.args.rows) { agents = first j })
