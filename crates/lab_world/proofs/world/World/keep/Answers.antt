use Rattle.std.proofs.Common.{List, ◌∙◌, ◌≡◌, ◌+◌, ℕ, ap, option_map, refl, subst, sym, true}
use Rattle.std.specs.Prelude.{is_some}
use Rattle.api_types.specs.Lists.{Each}
use Rattle.api_types.specs.RowLists.{RowLists}
use Rattle.api_types.specs.Rows.{Fits, after}
use Rattle.kept_laws.specs.Kept.{AreKept}
use Rattle.api_machine.specs.Machine.{MachineParts}
use Rattle.plane_types.specs.Node.{Agent, CanFollow, Node, agents_of, follows}
use Rattle.bus_core.specs.Kept.{Kept}
use Rattle.keeper_core.specs.Counts.{Tells}
use Rattle.world_laws.specs.Steps.{Accept, step}
use Rattle.world_laws.specs.World.{World}
use Rattle.lab_world.specs.Hosts.{AreToldBy, take_each}
use Rattle.lab_world.specs.Parts.{AreParts, world_seen}
use Rattle.lab_world.proofs.Keeping.{fits_stored, tells_after, told_after}
use Rattle.lab_world.proofs.Parts.{accepted, can_follow, can_take_all, rows_with, same_parts, sound_after}
use Rattle.lab_world.proofs.Seen.{still_on_err}
use Rattle.lab_world.proofs.world.World.keep.Goals as goal

pub prepare_told-requires-clause-fits : goal.prepare_told-requires-clause-fits
prepare_told-requires-clause-fits g c =
    let i = c.self.inside in
    let m : MachineParts = i.machine in
    let change = c.args.change in
    let fits : Fits m.rows change = subst (λ (w : World). Fits w.history.rows change) (sym c.self.view_is) c.requires.fits in
    let kept : AreKept m.settings m.rows (after m.rows change) = subst (λ (w : World). AreKept w.settings w.history.rows (after w.history.rows change)) (sym c.self.view_is) c.requires.sound in
    let number_is : c.version-version.result + 1 ≡ m.version + 1 = ap (λ n. n + 1) c.version-version.ensures ∙ (λ j. (c.prepare.ensures.same j).version + 1) in
    subst (λ (n : ℕ). Each (λ (x : Node). CanFollow x.agent n change) i.hosts) (sym number_is) (can_follow m.settings m.rows m.version i.bus i.hosts i.manual c.self.invariant change fits kept.consistent)

pub prepare_told-requires-clause-rows : goal.prepare_told-requires-clause-rows
prepare_told-requires-clause-rows g c =
    let i = c.self.inside in
    let m : MachineParts = i.machine in
    let change = c.args.change in
    let number_is : c.version-version.result + 1 ≡ m.version + 1 = ap (λ n. n + 1) c.version-version.ensures ∙ (λ j. (c.prepare.ensures.same j).version + 1) in
    let rows_are : c.rows.result.now ≡ after m.rows change = c.rows.ensures ∙ (λ j. (c.in_ok-ready.ensures.ready j).rows) in
    subst (λ (n : ℕ). Each (λ (x : Node). follows n x.agent.held ≡ true → c.rows.result.now ≡ after x.agent.rows change) i.hosts) (sym number_is)
    (subst (λ (r : RowLists). Each (λ (x : Node). follows (m.version + 1) x.agent.held ≡ true → r ≡ after x.agent.rows change) i.hosts) (sym rows_are)
    (rows_with m.settings m.rows m.version i.bus i.hosts i.manual c.self.invariant change i.hosts refl))

pub apply-requires : goal.apply-requires
apply-requires g c = fits_stored (g.K.Keeper.told c.args.keeper.now).rows c.args.self.now.history.rows c.args.change c.requires.kept c.requires.fits

pub take-requires : goal.take-requires
take-requires g c = can_take_all c.self.inside.manual _ _ c.prepare_told.new.self c.in_ok-told.told.items c.in_ok-told.ensures.ready

pub invariant_of-self-in-Ok : goal.invariant_of-self-in-Ok
invariant_of-self-in-Ok g c =
    let i = c.self.inside in
    let m : MachineParts = i.machine in
    let change = c.args.change in
    let fits : Fits m.rows change = subst (λ (w : World). Fits w.history.rows change) (sym c.self.view_is) c.requires.fits in
    let kept : AreKept m.settings m.rows (after m.rows change) = subst (λ (w : World). AreKept w.settings w.history.rows (after w.history.rows change)) (sym c.self.view_is) c.requires.sound in
    let put : c.accept.new.self ≡ record { settings = m.settings; rows = after m.rows change; version = m.version + 1 } =
    c.accept.ensures ∙ (λ j. record { settings = (c.prepare.ensures.same j).settings; rows = (c.in_ok-ready.ensures.ready j).rows; version = (c.prepare.ensures.same j).version + 1 }) in
    let number_is : c.version-version.result + 1 ≡ m.version + 1 = ap (λ n. n + 1) c.version-version.ensures ∙ (λ j. (c.prepare.ensures.same j).version + 1) in
    let rows_are : c.rows.result.now ≡ after m.rows change = c.rows.ensures ∙ (λ j. (c.in_ok-ready.ensures.ready j).rows) in
    let mid = c.prepare_told.new.self in
    let ready = c.in_ok-told.told.items in
    let told : AreToldBy i.manual (m.version + 1) (after m.rows change) mid ready =
    subst (λ (n : ℕ). AreToldBy i.manual n (after m.rows change) mid ready) number_is (subst (λ (r : RowLists). AreToldBy i.manual (c.version-version.result + 1) r mid ready) rows_are c.in_ok-told.ensures.ready) in
    let taken = c.take.ensures ∙ (λ j. take_each (number_is j) ready (agents_of mid)) in
    let both = accepted m.settings m.rows m.version i.bus i.hosts i.manual c.self.invariant change mid c.take.new.self ready fits (sound_after m.settings m.rows m.version i.bus i.hosts i.manual c.self.invariant (after m.rows change) kept) c.prepare_told.ensures.agents told taken in
    subst (λ (n : MachineParts). AreParts n.settings n.rows n.version c.push-kept.new.self c.take.new.self i.manual) (sym put)
    (subst (λ (k : Kept). AreParts m.settings (after m.rows change) (m.version + 1) k c.take.new.self i.manual) (sym c.push-kept.ensures.bus) both.0)

pub returns-in-Ok-clause-ok : goal.returns-in-Ok-clause-ok
returns-in-Ok-clause-ok g c =
    let i = c.self.inside in
    let m : MachineParts = i.machine in
    let change = c.args.change in
    let fits : Fits m.rows change = subst (λ (w : World). Fits w.history.rows change) (sym c.self.view_is) c.requires.fits in
    let kept : AreKept m.settings m.rows (after m.rows change) = subst (λ (w : World). AreKept w.settings w.history.rows (after w.history.rows change)) (sym c.self.view_is) c.requires.sound in
    let put : c.accept.new.self ≡ record { settings = m.settings; rows = after m.rows change; version = m.version + 1 } =
    c.accept.ensures ∙ (λ j. record { settings = (c.prepare.ensures.same j).settings; rows = (c.in_ok-ready.ensures.ready j).rows; version = (c.prepare.ensures.same j).version + 1 }) in
    let number_is : c.version-version.result + 1 ≡ m.version + 1 = ap (λ n. n + 1) c.version-version.ensures ∙ (λ j. (c.prepare.ensures.same j).version + 1) in
    let rows_are : c.rows.result.now ≡ after m.rows change = c.rows.ensures ∙ (λ j. (c.in_ok-ready.ensures.ready j).rows) in
    let mid = c.prepare_told.new.self in
    let ready = c.in_ok-told.told.items in
    let told : AreToldBy i.manual (m.version + 1) (after m.rows change) mid ready =
    subst (λ (n : ℕ). AreToldBy i.manual n (after m.rows change) mid ready) number_is (subst (λ (r : RowLists). AreToldBy i.manual (c.version-version.result + 1) r mid ready) rows_are c.in_ok-told.ensures.ready) in
    let taken = c.take.ensures ∙ (λ j. take_each (number_is j) ready (agents_of mid)) in
    let both = accepted m.settings m.rows m.version i.bus i.hosts i.manual c.self.invariant change mid c.take.new.self ready fits (sound_after m.settings m.rows m.version i.bus i.hosts i.manual c.self.invariant (after m.rows change) kept) c.prepare_told.ensures.agents told taken in
    (λ j. world_seen (put j).settings (put j).rows (put j).version (c.push-kept.ensures.bus j) c.take.new.self i.manual) ∙ both.1 ∙ ap (λ (w : World). step w (Accept change)) c.self.view_is

pub returns-in-Ok-clause-kept : goal.returns-in-Ok-clause-kept
returns-in-Ok-clause-kept g c =
    let change = c.args.change in
    let put : c.accept.new.self.rows ≡ after c.self.inside.machine.rows change = (λ j. (c.accept.ensures j).rows) ∙ (λ j. (c.in_ok-ready.ensures.ready j).rows) in
    let stored = (g.K.Keeper.told c.args.keeper.now).rows in record {
      tells = subst (λ o. Tells o c.accept.new.self.rows) (sym c.in-Ok.ensures.applied)
          (subst (Tells (option_map (λ (r : RowLists). after r change) stored)) (ap (λ (w : World). after w.history.rows change) (sym c.self.view_is) ∙ sym put)
          (tells_after stored c.args.self.now.history.rows change c.requires.kept));
      as_before = ap is_some c.in-Ok.ensures.applied ∙ told_after stored change;
    }

pub invariant_of-self-in_err-told : goal.invariant_of-self-in_err-told
invariant_of-self-in_err-told g c =
    let i = c.self.inside in
    let m : MachineParts = i.machine in
    subst (λ (n : MachineParts). AreParts n.settings n.rows n.version i.bus c.prepare_told.new.self i.manual) (sym c.prepare.ensures.same)
    (same_parts m.settings m.rows m.version i.bus i.hosts i.manual c.self.invariant c.prepare_told.new.self c.prepare_told.ensures.agents)

pub returns-in_err-told-clause-err : goal.returns-in_err-told-clause-err
returns-in_err-told-clause-err g c =
    let i = c.self.inside in
    let same = c.prepare.ensures.same in
    let old : world_seen c.prepare.new.self.settings c.prepare.new.self.rows c.prepare.new.self.version i.bus c.prepare_told.new.self i.manual ≡ c.args.self.now =
    (λ j. world_seen (same j).settings (same j).rows (same j).version i.bus c.prepare_told.new.self i.manual)
    ∙ ap (λ (agents : List Agent). record (world_seen i.machine.settings i.machine.rows i.machine.version i.bus i.hosts i.manual) { agents = agents }) c.prepare_told.ensures.agents ∙ c.self.view_is in
    still_on_err c.from_residual-in_err-told.result _ old

pub invariant_of-self-in-Err-Failed : goal.invariant_of-self-in-Err-Failed
invariant_of-self-in-Err-Failed g c =
    let i = c.self.inside in
    let m : MachineParts = i.machine in
    subst (λ (n : MachineParts). AreParts n.settings n.rows n.version i.bus c.prepare_told.new.self i.manual) (sym c.prepare.ensures.same)
    (same_parts m.settings m.rows m.version i.bus i.hosts i.manual c.self.invariant c.prepare_told.new.self c.prepare_told.ensures.agents)

pub returns-in-Err-Failed-clause-err : goal.returns-in-Err-Failed-clause-err
returns-in-Err-Failed-clause-err g c =
    let i = c.self.inside in
    let same = c.prepare.ensures.same in
    let old : world_seen c.prepare.new.self.settings c.prepare.new.self.rows c.prepare.new.self.version i.bus c.prepare_told.new.self i.manual ≡ c.args.self.now =
    (λ j. world_seen (same j).settings (same j).rows (same j).version i.bus c.prepare_told.new.self i.manual)
    ∙ ap (λ (agents : List Agent). record (world_seen i.machine.settings i.machine.rows i.machine.version i.bus i.hosts i.manual) { agents = agents }) c.prepare_told.ensures.agents ∙ c.self.view_is in
    old

pub invariant_of-self-in-Err-OutOfMemory : goal.invariant_of-self-in-Err-OutOfMemory
invariant_of-self-in-Err-OutOfMemory g c =
    let i = c.self.inside in
    let m : MachineParts = i.machine in
    subst (λ (n : MachineParts). AreParts n.settings n.rows n.version i.bus c.prepare_told.new.self i.manual) (sym c.prepare.ensures.same)
    (same_parts m.settings m.rows m.version i.bus i.hosts i.manual c.self.invariant c.prepare_told.new.self c.prepare_told.ensures.agents)

pub returns-clause-err : goal.returns-clause-err
returns-clause-err g c =
    let i = c.self.inside in
    let same = c.prepare.ensures.same in
    let old : world_seen c.prepare.new.self.settings c.prepare.new.self.rows c.prepare.new.self.version i.bus c.prepare_told.new.self i.manual ≡ c.args.self.now =
    (λ j. world_seen (same j).settings (same j).rows (same j).version i.bus c.prepare_told.new.self i.manual)
    ∙ ap (λ (agents : List Agent). record (world_seen i.machine.settings i.machine.rows i.machine.version i.bus i.hosts i.manual) { agents = agents }) c.prepare_told.ensures.agents ∙ c.self.view_is in
    old
