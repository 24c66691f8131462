use Rattle.std.proofs.Common.{◌≡◌, ◌∙◌, ◌==◌, ap, eq-eqb, false, inr, MatchOption, ne_eqb, None, Option, refl, Some, subst, sym, true}
use Rattle.plane_types.specs.declared.ask.LabAnswer.TheVariants.{Page}
use Rattle.plane_types.specs.declared.ask.LabCall.TheVariants as call
use Rattle.wire_types.specs.Pages.{all_rows, is_last_page, is_page, page}
use Rattle.world_laws.specs.World.{World}
use Rattle.api_types.specs.RowLists.{RowLists}
use Rattle.api_types.specs.declared.refusal.Refusal.TheVariants.{NoPage, VersionMoved}
use Rattle.lab_world.specs.Lab.{Answered, Barred, lab_outcome}
use Rattle.lab_world.proofs.MessageLaws.{page_missing, page_moved, page_seen}
use Rattle.lab_world.proofs.world.World.page_told.Goals as goal

-- what is known of what was found
of_some : {A : Type 0} (P : Type 0) (Q : A → Type 0) (found : Option A) (x : A) → found ≡ Some x → MatchOption found P Q → Q x
of_some P Q found x is known = subst (λ f. MatchOption f P Q) is known

of_none : {A : Type 0} (P : Type 0) (Q : A → Type 0) (found : Option A) → found ≡ None → MatchOption found P Q → P
of_none P Q found is known = subst (λ f. MatchOption f P Q) is known

pub returns-then-version-now-clause-err : goal.returns-then-version-now-clause-err
returns-then-version-now-clause-err c =
    let i = c.self.inside in
    let differs = ne_eqb c.args.version c.version-now.result c.if-version-now.true in
    inr (subst (λ (w : World). lab_outcome w c.args.caller.now (call.Page c.args.version c.args.number) ≡ Barred (VersionMoved c.args.version c.version-now.result)) c.self.view_is
    (page_moved i.machine.settings i.machine.rows i.machine.version i.bus i.hosts i.manual c.self.invariant c.args.caller.now c.args.version c.args.number c.in_ok-ensure_admin.ensures.ok
    (subst (λ n. (c.args.version == n) ≡ false) c.version-now.ensures differs)
    ∙ ap (λ n. Barred (VersionMoved c.args.version n)) (sym c.version-now.ensures)))

pub returns-in-Some-clause-ok : goal.returns-in-Some-clause-ok
returns-in-Some-clause-ok c =
    let i = c.self.inside in
    let found = subst (λ (r : RowLists). (is_page c.args.number (all_rows r) ≡ true) × (c.in-Some.page.rows ≡ page c.args.number (all_rows r)) × (c.in-Some.page.last ≡ is_last_page c.args.number (all_rows r)))
    c.rows.ensures.rows (of_some _ _ c.in_ok-found.found c.in-Some.page c.in-Some.is c.in_ok-found.ensures) in
    let same = eq-eqb c.args.version i.machine.version (c.if-version-now.false ∙ c.version-now.ensures) in
    subst (λ (w : World). lab_outcome w c.args.caller.now (call.Page c.args.version c.args.number) ≡ Answered (Page c.args.version c.args.number c.in-Some.page.last c.in-Some.page.rows) w) c.self.view_is
    (page_seen i.machine.settings i.machine.rows i.machine.version i.bus i.hosts i.manual c.self.invariant c.args.caller.now c.args.version c.args.number c.in-Some.page.last c.in-Some.page.rows c.in_ok-ensure_admin.ensures.ok
    same found.0 found.1 found.2)

pub returns-in-None-clause-err : goal.returns-in-None-clause-err
returns-in-None-clause-err c =
    let i = c.self.inside in
    let missing = subst (λ (r : RowLists). is_page c.args.number (all_rows r) ≡ false) c.rows.ensures.rows (of_none _ _ c.in_ok-found.found c.in-None.is c.in_ok-found.ensures) in
    let same = eq-eqb c.args.version i.machine.version (c.if-version-now.false ∙ c.version-now.ensures) in
    inr (subst (λ (w : World). lab_outcome w c.args.caller.now (call.Page c.args.version c.args.number) ≡ Barred (NoPage c.args.number)) c.self.view_is
    (page_missing i.machine.settings i.machine.rows i.machine.version i.bus i.hosts i.manual c.self.invariant c.args.caller.now c.args.version c.args.number c.in_ok-ensure_admin.ensures.ok same missing))
