use Rattle.std.proofs.Common.{◌≡◌, Result, Ok, Err, subst}
use Rattle.std.specs.Prelude.{IfErr, IfOk}
use Rattle.api_types.specs.declared.refusal.Refusal.{Refusal}
use Rattle.plane_types.specs.declared.ask.LabAnswer.{LabAnswer}
use Rattle.plane_types.specs.declared.ask.LabAnswer.TheVariants as answers
use Rattle.plane_types.specs.declared.ask.LabCall.TheVariants.{Tables}
use Rattle.world_laws.specs.World.{World}
use Rattle.lab_world.specs.Lab.{Answered, IsBarred, lab_outcome}
use Rattle.lab_world.proofs.MessageLaws.{barred, tables_seen}
use Rattle.lab_world.proofs.world.World.tables_told.Goals as goal

if_ok : (P Q : LabAnswer → Type 0) (r : Result LabAnswer Refusal) → ((x : LabAnswer) → P x → Q x) → IfOk r P → IfOk r Q
if_ok P Q (Ok x) goes h = goes x h
if_ok P Q (Err e) goes h = tt

if_err : (P Q : Refusal → Type 0) (r : Result LabAnswer Refusal) → ((x : Refusal) → P x → Q x) → IfErr r P → IfErr r Q
if_err P Q (Ok x) goes h = tt
if_err P Q (Err e) goes h = goes e h

pub returns-clause-ok : goal.returns-clause-ok
returns-clause-ok c =
    let i = c.self.inside in
    if_ok _ (λ answer. lab_outcome c.args.self.now c.args.caller.now (Tables c.args.name.now) ≡ Answered answer c.args.self.now) c.tables_of.result
    (λ answer found. subst (λ (w : World). lab_outcome w c.args.caller.now (Tables c.args.name.now) ≡ Answered answer w) c.self.view_is (tables_seen i.machine.settings i.machine.rows i.machine.version i.bus i.hosts i.manual c.self.invariant c.args.caller.now c.args.name.now answer c.in_ok-ensure_admin.ensures.ok found))
    c.tables_of.ensures.ok

pub returns-clause-err : goal.returns-clause-err
returns-clause-err c =
    let i = c.self.inside in
    if_err _ (IsBarred (lab_outcome c.args.self.now c.args.caller.now (Tables c.args.name.now))) c.tables_of.result
    (λ refusal is. barred i.machine.settings i.machine.rows i.machine.version i.bus i.hosts i.manual c.self.invariant c.args.caller.now c.args.name.now (λ w a. Answered (answers.Tables a.tables) w) c.args.self.now c.self.view_is c.in_ok-ensure_admin.ensures.ok refusal is)
    c.tables_of.ensures.err
