use Rattle.std.proofs.Common.{◌∙◌, ◌≡◌, List, ap, arith, inl, length, map, refl, subst, sym}
use Rattle.std.proofs.lemmas.Result.{err_from_is_err_and}
use Rattle.api_types.specs.Lists.{Each}
use Rattle.plane_types.specs.Attached.{IsAttached}
use Rattle.plane_types.specs.Verdicts.{fabric_verdict, with_made}
use Rattle.plane_types.specs.declared.verdict.Made.{Made}
use Rattle.plane_types.specs.declared.verdict.Verdict.{Verdict}
use Rattle.plane_types.specs.Node.{Agent, Node, agents_of, host_of}
use Rattle.lab_world.specs.Lab.{event_refusal}
use Rattle.lab_world.specs.Parts.{world_seen}
use Rattle.lab_world.proofs.FrameLaws.{fresh_few}
use Rattle.lab_world.proofs.MessageLaws.{carries_on}
use Rattle.lab_world.proofs.Parts.{fresh_placed, names_differ, same_parts}
use Rattle.lab_world.proofs.world.World.carry.Goals as goal

pub invariant_of-self : goal.invariant_of-self
invariant_of-self c =
    let i = c.self.inside in
    same_parts i.machine.settings i.machine.rows i.machine.version i.bus i.hosts i.manual c.self.invariant c.reserve.new.self c.reserve.ensures.same

pub returns-in_err-reserve-clause-err : goal.returns-in_err-reserve-clause-err
returns-in_err-reserve-clause-err c =
    let i = c.self.inside in
    let p = err_from_is_err_and c.from_residual-in_err-reserve.result c.from_residual-in_err-reserve.ensures.1 in
    rw (p.1, p.2) (ap (λ (agents : List Agent). record (world_seen i.machine.settings i.machine.rows i.machine.version i.bus i.hosts i.manual) { agents = agents }) c.reserve.ensures.same ∙ c.self.view_is, inl refl)

pub send-requires : goal.send-requires
send-requires c =
    let i = c.self.inside in
    names_differ i.machine.settings i.machine.rows i.machine.version i.bus c.reserve.new.self i.manual
    (same_parts i.machine.settings i.machine.rows i.machine.version i.bus i.hosts i.manual c.self.invariant c.reserve.new.self c.reserve.ensures.same)

pub invariant_of-self-in_err-verdict : goal.invariant_of-self-in_err-verdict
invariant_of-self-in_err-verdict c =
    let i = c.self.inside in
    same_parts i.machine.settings i.machine.rows i.machine.version i.bus i.hosts i.manual c.self.invariant c.reserve.new.self c.reserve.ensures.same

pub returns-in_err-verdict-clause-err : goal.returns-in_err-verdict-clause-err
returns-in_err-verdict-clause-err c =
    let i = c.self.inside in
    let p = err_from_is_err_and c.from_residual-in_err-verdict.result c.from_residual-in_err-verdict.ensures.1 in
    rw (p.1, p.2) (ap (λ (agents : List Agent). record (world_seen i.machine.settings i.machine.rows i.machine.version i.bus i.hosts i.manual) { agents = agents }) c.reserve.ensures.same ∙ c.self.view_is, inl refl)

pub keep-requires-clause-room : goal.keep-requires-clause-room
keep-requires-clause-room c =
    let few = fresh_few (map host_of (agents_of c.reserve.new.self)) c.args.event.now c.lifetime.ensures in
    let same : length c.as_slice.result.now ≡ length (fabric_verdict (map host_of (agents_of c.reserve.new.self)) c.args.event.now).fresh =
    ap length c.as_slice.ensures ∙ ap (λ (v : Verdict). length v.fresh) c.in_ok-verdict.ensures in
    λ k (r : Node) at. let room = c.in_ok-reserve.ensures.spare k r at in omega (arith, few, same, room)

pub keep-requires-clause-placed : goal.keep-requires-clause-placed
keep-requires-clause-placed c =
    let i = c.self.inside in
    let parts = same_parts i.machine.settings i.machine.rows i.machine.version i.bus i.hosts i.manual c.self.invariant c.reserve.new.self c.reserve.ensures.same in
    subst (λ (fresh : List Made). Each IsAttached (with_made (map host_of (agents_of c.reserve.new.self)) fresh)) (sym (c.as_slice.ensures ∙ ap (λ (v : Verdict). v.fresh) c.in_ok-verdict.ensures))
    (fresh_placed i.machine.settings i.machine.rows i.machine.version i.bus c.reserve.new.self i.manual parts c.args.event.now)

pub invariant_of-self-2 : goal.invariant_of-self-2
invariant_of-self-2 c =
    let i = c.self.inside in
    let same = c.reserve.ensures.same in
    let parts = same_parts i.machine.settings i.machine.rows i.machine.version i.bus i.hosts i.manual c.self.invariant c.reserve.new.self same in
    (carries_on i.machine.settings i.machine.rows i.machine.version i.bus c.reserve.new.self i.manual parts c.args.caller.now c.args.event.now c.in_ok-verdict.verdict c.as_slice.result.now c.keep.new.self c.args.self.now
    (ap (λ (agents : List Agent). record (world_seen i.machine.settings i.machine.rows i.machine.version i.bus i.hosts i.manual) { agents = agents }) same ∙ c.self.view_is)
    (ap (λ rows. event_refusal rows c.args.caller.now c.args.event.now) (sym c.rows.ensures.rows) ∙ c.in_ok-ensure_event_allowed.ensures.ok) c.in_ok-verdict.ensures c.as_slice.ensures c.keep.ensures).0

pub returns-clause-ok : goal.returns-clause-ok
returns-clause-ok c =
    let i = c.self.inside in
    let same = c.reserve.ensures.same in
    let parts = same_parts i.machine.settings i.machine.rows i.machine.version i.bus i.hosts i.manual c.self.invariant c.reserve.new.self same in
    (carries_on i.machine.settings i.machine.rows i.machine.version i.bus c.reserve.new.self i.manual parts c.args.caller.now c.args.event.now c.in_ok-verdict.verdict c.as_slice.result.now c.keep.new.self c.args.self.now
    (ap (λ (agents : List Agent). record (world_seen i.machine.settings i.machine.rows i.machine.version i.bus i.hosts i.manual) { agents = agents }) same ∙ c.self.view_is)
    (ap (λ rows. event_refusal rows c.args.caller.now c.args.event.now) (sym c.rows.ensures.rows) ∙ c.in_ok-ensure_event_allowed.ensures.ok) c.in_ok-verdict.ensures c.as_slice.ensures c.keep.ensures).1
