use Rattle.std.proofs.Common.{◌≡◌, ◌∙◌, List, map, refl, subst, sym}
use Rattle.api_types.specs.Lists.{Each}
use Rattle.plane_types.specs.Node.{Ready, agents_of, ready_for}
use Rattle.world_laws.proofs.Lists.{each_map}
use Rattle.lab_world.specs.Hosts.{AreFor, settle_each, state_at_version}
use Rattle.lab_world.proofs.MessageLaws.{settles}
use Rattle.lab_world.proofs.Seen.{ready_matches}
use Rattle.lab_world.proofs.world.World.settle.Goals as goal

pub settle-requires-clause-each : goal.settle-requires-clause-each
settle-requires-clause-each c = subst (λ (ready : List Ready). AreFor ready c.self.inside.hosts) (sym c.in_ok-ready.ensures) (ready_matches _ _ c.self.inside.hosts)

pub settle-requires-clause-version : goal.settle-requires-clause-version
settle-requires-clause-version c =
    subst (λ (ready : List Ready). Each (λ (r : Ready). r.version ≡ c.version-version.result) ready) (sym c.in_ok-ready.ensures)
    (each_map (ready_for c.version-version.result c.rows.result.now) (λ (r : Ready). r.version ≡ c.version-version.result) (agents_of c.self.inside.hosts) (λ k a at. refl))

pub invariant_of-self : goal.invariant_of-self
invariant_of-self c =
    let i = c.self.inside in
    let told : c.in_ok-states.states ≡ map (state_at_version i.machine.version) (agents_of i.hosts) =
    c.in_ok-states.ensures ∙ (λ j. map (state_at_version (c.version-version.ensures j)) (agents_of i.hosts)) in
    let ready : c.in_ok-ready.ready.items ≡ map (ready_for i.machine.version i.machine.rows) (agents_of i.hosts) =
    c.in_ok-ready.ensures ∙ (λ j. map (ready_for (c.version-version.ensures j) (c.rows.ensures.rows j)) (agents_of i.hosts)) in
    let put : agents_of c.settle.new.self ≡ settle_each i.machine.version (map (ready_for i.machine.version i.machine.rows) (agents_of i.hosts)) (agents_of i.hosts) =
    c.settle.ensures ∙ (λ j. settle_each (c.version-version.ensures j) (ready j) (agents_of i.hosts)) in
    (settles i.machine.settings i.machine.rows i.machine.version i.bus i.hosts i.manual c.self.invariant c.args.caller.now c.in_ok-states.states c.settle.new.self c.args.self.now c.self.view_is c.in_ok-ensure_admin.ensures.ok told put).0

pub returns-clause-ok : goal.returns-clause-ok
returns-clause-ok c =
    let i = c.self.inside in
    let told : c.in_ok-states.states ≡ map (state_at_version i.machine.version) (agents_of i.hosts) =
    c.in_ok-states.ensures ∙ (λ j. map (state_at_version (c.version-version.ensures j)) (agents_of i.hosts)) in
    let ready : c.in_ok-ready.ready.items ≡ map (ready_for i.machine.version i.machine.rows) (agents_of i.hosts) =
    c.in_ok-ready.ensures ∙ (λ j. map (ready_for (c.version-version.ensures j) (c.rows.ensures.rows j)) (agents_of i.hosts)) in
    let put : agents_of c.settle.new.self ≡ settle_each i.machine.version (map (ready_for i.machine.version i.machine.rows) (agents_of i.hosts)) (agents_of i.hosts) =
    c.settle.ensures ∙ (λ j. settle_each (c.version-version.ensures j) (ready j) (agents_of i.hosts)) in
    (settles i.machine.settings i.machine.rows i.machine.version i.bus i.hosts i.manual c.self.invariant c.args.caller.now c.in_ok-states.states c.settle.new.self c.args.self.now c.self.view_is c.in_ok-ensure_admin.ensures.ok told put).1
