-- What an agent makes of each kind of reply, by its state.
use Rattle.std.proofs.Common.{◌≡◌, ◌∙◌, ◌<◌, ◌+◌, ◌==◌, ◌++◌, ◌^◌, ℕ, suc, Bool, true, false, List, [], Option, Some, None, if◌then◌else◌, inl, inr, ap, sym, subst, refl, arith}
use Rattle.std.proofs.lemmas.Bool.Decides.{nat_tests}
use Rattle.api_types.specs.RowLists.{RowLists}
use Rattle.api_types.specs.Rows.{Fits, after}
use Rattle.api_types.specs.declared.change.Item.{Item}
use Rattle.api_types.specs.declared.page.PageRow.{PageRow}
use Rattle.api_types.proofs.ListLemmas.{and_both}
use Rattle.net_settings.specs.Settings.{SettingsParts}
use Rattle.plane_types.specs.Node.{Agent, after_resync}
use Rattle.wire_types.specs.Pages.{rows_from}
use Rattle.wire_types.specs.declared.reply.WireReply.TheVariants as reply
use Rattle.wire_types.specs.declared.step.WireStep.{WireStep}
use Rattle.wire_types.specs.declared.step.WireStep.TheVariants as step
use Rattle.world_laws.specs.World.{AreSound}
use Rattle.wire_laws.specs.Hearing.{Hears, Makes, Move, PutChange, Takes, To, after_page, agent_with}
use Rattle.wire_laws.specs.Promises.{held_by}
use Rattle.wire_laws.specs.WireStates.{Check as Checks, Draft as Drafts, Held, Lost, WireState, agent_of, last_number}
use Rattle.agent_wire.specs.Phases.{awaits_change, awaits_page, can_go_on, checking, following, has_room, is_asking, is_drafting, is_following, with_page}
use Rattle.agent_wire.specs.Snapshots.{drafted}

-- equal numbers
same_number : (a b : ℕ) → (a == b) ≡ true → a ≡ b
same_number a b e = grind (arith, nat_tests, e)

module _ (settings : SettingsParts) (host : List ℕ) where
  -- ---- a version

  pub version_passed : (state : WireState) (first last : ℕ) → is_asking state ≡ false → Hears settings host state (reply.Version first last) step.Again state
  version_passed Lost first last e = cc
  version_passed (Checks a) first last e = cc
  version_passed (Drafts a version number rows) first last e = (refl, refl)
  version_passed (Held a) first last e = (refl, refl)

  pub version_same : (a : Option Agent) (first last : ℕ) → can_go_on (held_by (checking a)) first last ≡ true → Hears settings host (checking a) (reply.Version first last) step.Same (following a)
  version_same None first last e = cc
  version_same (Some a) first last e =
      subst (λ (t : Bool). Makes settings host (Checks a) (if t then To step.Same (Held a) else To (step.Anew last) (Drafts (Some a) last 0 [])) step.Same (Held a)) (sym e) (refl, refl)

  pub version_anew : (a : Option Agent) (first last : ℕ) → can_go_on (held_by (checking a)) first last ≡ false → Hears settings host (checking a) (reply.Version first last) (step.Anew last) (Drafts a last 0 [])
  version_anew None first last e = (refl, refl)
  version_anew (Some a) first last e =
      subst (λ (t : Bool). Makes settings host (Checks a) (if t then To step.Same (Held a) else To (step.Anew last) (Drafts (Some a) last 0 [])) (step.Anew last) (Drafts (Some a) last 0 [])) (sym e) (refl, refl)

  -- ---- a page

  -- what a page leads to in a draft
  abbrev in_draft : Option Agent → ℕ → ℕ → List PageRow → Bool → List PageRow → Bool → Move
  in_draft a version number rows last more t =
      if t then after_page a version number last (rows ++ more) (Drafts a version number rows) else To step.Again (Drafts a version number rows)

  pub page_passed : (state : WireState) (v k : ℕ) (last : Bool) (more : List PageRow) → awaits_page v k state ≡ false → Hears settings host state (reply.Page v k last more) step.Again state
  page_passed Lost v k last more e = (refl, refl)
  page_passed (Checks a) v k last more e = (refl, refl)
  page_passed (Held a) v k last more e = (refl, refl)
  page_passed (Drafts a version number rows) v k last more e =
      subst (λ (t : Bool). Makes settings host (Drafts a version number rows) (in_draft a version number rows last more t) step.Again (Drafts a version number rows)) (sym e) (refl, refl)

  pub page_last : (state : WireState) (v k : ℕ) (more : List PageRow) (s : WireStep) (new : WireState) → awaits_page v k state ≡ true
      → Takes (AreSound settings (rows_from (drafted state ++ more))) (agent_with host v (rows_from (drafted state ++ more)) (agent_of state)) state s new → Hears settings host state (reply.Page v k true more) s new
  page_last Lost v k more s new e takes = cc
  page_last (Checks a) v k more s new e takes = cc
  page_last (Held a) v k more s new e takes = cc
  page_last (Drafts a version number rows) v k more s new e takes =
      let same = same_number v version (and_both (v == version) (k == number) e).0 in
      subst (λ (t : Bool). Makes settings host (Drafts a version number rows) (in_draft a version number rows true more t) s new) (sym e)
      (subst (λ w. Takes (AreSound settings (rows_from (rows ++ more))) (agent_with host w (rows_from (rows ++ more)) a) (Drafts a version number rows) s new) same takes)

  pub page_over : (state : WireState) (v k : ℕ) (more : List PageRow) → awaits_page v k state ≡ true → (k == last_number) ≡ true → Hears settings host state (reply.Page v k false more) step.Again state
  page_over Lost v k more e over = cc
  page_over (Checks a) v k more e over = cc
  page_over (Held a) v k more e over = cc
  page_over (Drafts a version number rows) v k more e over =
      let same = same_number k number (and_both (v == version) (k == number) e).1 in
      let last : (number == last_number) ≡ true = ap (λ n. n == last_number) (sym same) ∙ over in
      subst (λ (t : Bool). Makes settings host (Drafts a version number rows) (in_draft a version number rows false more t) step.Again (Drafts a version number rows)) (sym e)
      (subst (λ (t : Bool). Makes settings host (Drafts a version number rows) (if t then To step.Again (Drafts a version number rows) else To step.Page (Drafts a version (suc number) (rows ++ more))) step.Again (Drafts a version number rows)) (sym last) (refl, refl))

  pub page_added : (state : WireState) (v k : ℕ) (more : List PageRow) → awaits_page v k state ≡ true → (k == last_number) ≡ false → Hears settings host state (reply.Page v k false more) step.Page (with_page more state)
  page_added Lost v k more e inner = cc
  page_added (Checks a) v k more e inner = cc
  page_added (Held a) v k more e inner = cc
  page_added (Drafts a version number rows) v k more e inner =
      let same = same_number k number (and_both (v == version) (k == number) e).1 in
      let before : (number == last_number) ≡ false = ap (λ n. n == last_number) (sym same) ∙ inner in
      subst (λ (t : Bool). Makes settings host (Drafts a version number rows) (in_draft a version number rows false more t) step.Page (Drafts a version (suc number) (rows ++ more))) (sym e)
      (subst (λ (t : Bool). Makes settings host (Drafts a version number rows) (if t then To step.Again (Drafts a version number rows) else To step.Page (Drafts a version (suc number) (rows ++ more))) step.Page (Drafts a version (suc number) (rows ++ more))) (sym before) (refl, refl))

  -- ---- a change

  pub change_passed : (state : WireState) (n : ℕ) (c : List Item) → awaits_change n state ≡ false → Hears settings host state (reply.Change n c) step.Again state
  change_passed Lost n c e = (refl, refl)
  change_passed (Checks a) n c e = (refl, refl)
  change_passed (Drafts a version number rows) n c e = (refl, refl)
  change_passed (Held a) n c e =
      subst (λ (t : Bool). Makes settings host (Held a) (if t then PutChange a c else To step.Again (Held a)) step.Again (Held a)) (sym e) (refl, refl)

  pub change_unfit : (state : WireState) (n : ℕ) (c : List Item) → awaits_change n state ≡ true → ((a : Agent) → agent_of state ≡ Some a → Fits a.rows c → ⊥) → Hears settings host state (reply.Change n c) step.BadRows state
  change_unfit Lost n c e unfit = cc
  change_unfit (Checks a) n c e unfit = cc
  change_unfit (Drafts a version number rows) n c e unfit = cc
  change_unfit (Held a) n c e unfit =
      subst (λ (t : Bool). Makes settings host (Held a) (if t then PutChange a c else To step.Again (Held a)) step.BadRows (Held a)) (sym e) (inr ((λ good. unfit a refl good.0), refl, refl))

  -- what fits as well is taken in the same way
  taken_too : (P Q : Type 0) (new : Agent) (old : WireState) (s : WireStep) (state : WireState) → P → Takes Q new old s state → Takes (P × Q) new old s state
  taken_too P Q new old s state p (inl h) = inl ((p, h.0), h.1, h.2)
  taken_too P Q new old s state p (inr h) = inr ((λ both. h.0 both.1), h.1, h.2)

  pub change_put : (state : WireState) (n : ℕ) (c : List Item) (rows : RowLists) (s : WireStep) (new : WireState) → awaits_change n state ≡ true
      → ((a : Agent) → agent_of state ≡ Some a → Fits a.rows c × (rows ≡ after a.rows c)) → Takes (AreSound settings rows) (agent_with host n rows (agent_of state)) state s new → Hears settings host state (reply.Change n c) s new
  change_put Lost n c rows s new e fits takes = cc
  change_put (Checks a) n c rows s new e fits takes = cc
  change_put (Drafts a version number rs) n c rows s new e fits takes = cc
  change_put (Held a) n c rows s new e fits takes =
      let fit = fits a refl in
      let same = same_number n (a.version + 1) e in
      let there : Takes (AreSound settings (after a.rows c)) (after_resync (a.version + 1) (after a.rows c) a) (Held a) s new =
      subst (λ m. Takes (AreSound settings (after a.rows c)) (after_resync m (after a.rows c) a) (Held a) s new) same (subst (λ r. Takes (AreSound settings r) (after_resync n r a) (Held a) s new) fit.1 takes) in
      subst (λ (t : Bool). Makes settings host (Held a) (if t then PutChange a c else To step.Again (Held a)) s new) (sym e)
      (taken_too (Fits a.rows c) (AreSound settings (after a.rows c)) (after_resync (a.version + 1) (after a.rows c) a) (Held a) s new fit.0 there)

  -- ---- refusals

  pub lack_passed : (state : WireState) → is_following state ≡ false → Hears settings host state reply.NoMessage step.Again state
  lack_passed Lost e = (refl, refl)
  lack_passed (Checks a) e = (refl, refl)
  lack_passed (Drafts a version number rows) e = (refl, refl)
  lack_passed (Held a) e = cc

  pub moved_passed : (state : WireState) → is_drafting state ≡ false → Hears settings host state reply.VersionMoved step.Again state
  moved_passed Lost e = (refl, refl)
  moved_passed (Checks a) e = (refl, refl)
  moved_passed (Drafts a version number rows) e = cc
  moved_passed (Held a) e = (refl, refl)

  pub no_page_passed : (state : WireState) → is_drafting state ≡ false → Hears settings host state reply.NoPage step.Again state
  no_page_passed Lost e = (refl, refl)
  no_page_passed (Checks a) e = (refl, refl)
  no_page_passed (Drafts a version number rows) e = cc
  no_page_passed (Held a) e = (refl, refl)

  pub refused : (state : WireState) → Hears settings host state reply.Refused step.Again state
  refused Lost = (refl, refl)
  refused (Checks a) = (refl, refl)
  refused (Drafts a version number rows) = (refl, refl)
  refused (Held a) = (refl, refl)

-- a further page has a number
pub has_number : (state : WireState) (v k : ℕ) → awaits_page v k state ≡ true → k < 2 ^ 64 → (k == last_number) ≡ false → has_room state ≡ true
has_number Lost v k e small inner = cc
has_number (Checks a) v k e small inner = cc
has_number (Held a) v k e small inner = cc
has_number (Drafts a version number rows) v k e small inner =
    let same = same_number k number (and_both (v == version) (k == number) e).1 in
    grind (arith, nat_tests, same, small, inner)
