use Rattle.std.proofs.Common.{◌≡◌, ◌∙◌, ℕ, List, Some, ap, inl, refl, subst, sym, true}
use Rattle.std.proofs.lemmas.Option.{slice_get_within}
use Rattle.std.proofs.lemmas.Result.{err_from_is_err_and}
use Rattle.api_types.specs.Lists.{Each}
use Rattle.api_types.specs.RowLists.{RowLists}
use Rattle.api_types.specs.Rows.{after}
use Rattle.bus_core.specs.History.{change_at}
use Rattle.bus_core.specs.Kept.{change_of}
use Rattle.plane_types.specs.Node.{Agent, Node, follows}
use Rattle.lab_world.specs.Lab.{delivered}
use Rattle.lab_world.specs.Parts.{world_seen}
use Rattle.lab_world.proofs.MessageLaws.{barred, delivers, ungiven}
use Rattle.lab_world.proofs.Parts.{next_follows, rows_given, same_parts}
use Rattle.lab_world.proofs.Seen.{given_at}
use Rattle.lab_world.proofs.world.World.deliver.Goals as goal

pub returns-in_err-at-clause-err : goal.returns-in_err-at-clause-err
returns-in_err-at-clause-err c =
    let i = c.self.inside in
    let p = err_from_is_err_and c.from_residual-in_err-at.result c.from_residual-in_err-at.ensures.1 in
    rw (p.1, p.2) (refl, barred i.machine.settings i.machine.rows i.machine.version i.bus i.hosts i.manual c.self.invariant c.args.caller.now c.args.name.now (λ w a. delivered w c.args.name.now c.args.number a (change_at w.history c.args.number)) c.args.self.now c.self.view_is c.in_ok-ensure_admin.ensures.ok c.in_err-at.field-0.0 c.in_err-at.ensures.err)

pub returns-in_err-change-clause-err : goal.returns-in_err-change-clause-err
returns-in_err-change-clause-err c =
    let i = c.self.inside in
    let p = err_from_is_err_and c.from_residual-in_err-change.result c.from_residual-in_err-change.ensures.1 in
    rw (p.1, p.2) (refl, ungiven i.machine.settings i.machine.rows i.machine.version i.bus i.hosts i.manual c.self.invariant c.args.caller.now c.args.name.now c.in_ok-at.at c.args.number c.args.self.now c.self.view_is c.in_ok-ensure_admin.ensures.ok c.in_ok-at.ensures.ok c.in_err-change.field-0.0 c.in_err-change.ensures.err)

pub deliver-requires-clause-within : goal.deliver-requires-clause-within
deliver-requires-clause-within c = let named = c.in_ok-at.ensures.ok in slice_get_within c.self.inside.hosts c.in_ok-at.at named.0 named.1

pub deliver-requires-clause-fits : goal.deliver-requires-clause-fits
deliver-requires-clause-fits c =
    let i = c.self.inside in
    let kept : change_of i.machine.version i.bus.changes c.args.number ≡ Some c.in_ok-change.change.now =
    subst (λ (n : ℕ). change_of n i.bus.changes c.args.number ≡ Some c.in_ok-change.change.now) c.self.invariant.numbered c.in_ok-change.ensures.ok in
    next_follows i.machine.settings i.machine.rows i.machine.version i.bus i.hosts i.manual c.self.invariant c.args.number c.in_ok-change.change.now kept

pub deliver-requires-clause-rows : goal.deliver-requires-clause-rows
deliver-requires-clause-rows c =
    let i = c.self.inside in
    let change = c.in_ok-change.change.now in
    let kept : change_of i.machine.version i.bus.changes c.args.number ≡ Some change =
    subst (λ (n : ℕ). change_of n i.bus.changes c.args.number ≡ Some change) c.self.invariant.numbered c.in_ok-change.ensures.ok in
    given_at c.rows_of-after.result _ _ (λ rows now.
    subst (λ (r : RowLists). Each (λ (n : Node). follows c.args.number n.agent.held ≡ true → r ≡ after n.agent.rows change) i.hosts) (sym now.1)
    (subst (λ (v : ℕ). Each (λ (n : Node). follows v n.agent.held ≡ true → i.machine.rows ≡ after n.agent.rows change) i.hosts) (sym now.0)
    (rows_given i.machine.settings i.machine.rows i.machine.version i.bus i.hosts i.manual c.self.invariant change (subst (λ (n : ℕ). change_of i.machine.version i.bus.changes n ≡ Some change) now.0 kept))))
    c.rows_of-after.ensures

pub invariant_of-self-2 : goal.invariant_of-self-2
invariant_of-self-2 c =
    let i = c.self.inside in
    let kept : change_of i.machine.version i.bus.changes c.args.number ≡ Some c.in_ok-change.change.now =
    subst (λ (n : ℕ). change_of n i.bus.changes c.args.number ≡ Some c.in_ok-change.change.now) c.self.invariant.numbered c.in_ok-change.ensures.ok in
    (delivers i.machine.settings i.machine.rows i.machine.version i.bus i.hosts i.manual c.self.invariant c.args.caller.now c.args.name.now c.in_ok-at.at c.args.number c.in_ok-change.change.now c.in_ok-heard.heard c.deliver.new.self c.args.self.now c.self.view_is c.in_ok-ensure_admin.ensures.ok c.in_ok-at.ensures.ok kept c.in_ok-heard.ensures.heard c.in_ok-heard.ensures.ok).0

pub returns-clause-ok : goal.returns-clause-ok
returns-clause-ok c =
    let i = c.self.inside in
    let kept : change_of i.machine.version i.bus.changes c.args.number ≡ Some c.in_ok-change.change.now =
    subst (λ (n : ℕ). change_of n i.bus.changes c.args.number ≡ Some c.in_ok-change.change.now) c.self.invariant.numbered c.in_ok-change.ensures.ok in
    (delivers i.machine.settings i.machine.rows i.machine.version i.bus i.hosts i.manual c.self.invariant c.args.caller.now c.args.name.now c.in_ok-at.at c.args.number c.in_ok-change.change.now c.in_ok-heard.heard c.deliver.new.self c.args.self.now c.self.view_is c.in_ok-ensure_admin.ensures.ok c.in_ok-at.ensures.ok kept c.in_ok-heard.ensures.heard c.in_ok-heard.ensures.ok).1

pub invariant_of-self : goal.invariant_of-self
invariant_of-self c =
    let i = c.self.inside in
    same_parts i.machine.settings i.machine.rows i.machine.version i.bus i.hosts i.manual c.self.invariant c.deliver.new.self c.in_err-heard.ensures.err

pub returns-in_err-heard-clause-err : goal.returns-in_err-heard-clause-err
returns-in_err-heard-clause-err c =
    let i = c.self.inside in
    let p = err_from_is_err_and c.from_residual-in_err-heard.result c.from_residual-in_err-heard.ensures.1 in
    rw (p.1, p.2) (ap (λ (agents : List Agent). record (world_seen i.machine.settings i.machine.rows i.machine.version i.bus i.hosts i.manual) { agents = agents }) c.in_err-heard.ensures.err ∙ c.self.view_is, inl refl)
