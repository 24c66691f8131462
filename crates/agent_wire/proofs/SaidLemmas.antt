-- What becomes of an agent, by what code has of its state.
use Rattle.std.proofs.Common.{◌≡◌, ◌∙◌, ◌==◌, ◌++◌, ◌↔◌, ℕ, Bool, true, false, true≢false, not, List, [], Option, None, Some, is_some, inl, inr, ap, sym, subst, refl}
use Rattle.std.specs.Prelude.{IsTrue}
use Rattle.api_types.specs.Consistent.{IsConsistent}
use Rattle.api_types.specs.RowLists.{RowLists}
use Rattle.api_types.specs.Rows.{Fits, after}
use Rattle.api_types.specs.declared.change.Item.{Item}
use Rattle.api_types.specs.declared.page.PageRow.{PageRow}
use Rattle.net_settings.specs.Settings.{SettingsParts}
use Rattle.plane_types.specs.Node.{Agent, Node}
use Rattle.wire_types.specs.Pages.{rows_from}
use Rattle.wire_types.specs.declared.reply.WireReply.{WireReply}
use Rattle.wire_types.specs.declared.reply.WireReply.TheVariants as reply
use Rattle.wire_types.specs.declared.step.WireStep.{WireStep}
use Rattle.wire_types.specs.declared.step.WireStep.TheVariants as step
use Rattle.world_laws.specs.World.{AreSound}
use Rattle.wire_laws.specs.Hearing.{Hears, agent_with}
use Rattle.wire_laws.specs.Promises.{held_by}
use Rattle.wire_laws.specs.WireStates.{Draft as Drafts, WireState, agent_of, last_number}
use Rattle.agent_wire.specs.HostAgents.{HearsSaid, HostAgent, PutsRows}
use Rattle.agent_wire.specs.Phases.{HasNode, agent_in, awaits_change, awaits_page, can_go_on, checking, following, is_asking, is_drafting, is_following, state_of, with_page}
use Rattle.agent_wire.specs.Snapshots.{drafted}
use Rattle.agent_wire.specs.declared.agent.Phase.{Phase}
use Rattle.agent_wire.specs.declared.agent.Phase.TheVariants.{Check, Follow}
use Rattle.agent_wire.proofs.HearLemmas.{change_put, change_unfit, page_added, page_last, page_over, version_anew, version_same}
use Rattle.agent_wire.proofs.PhaseLemmas.{agent_is, agent_seen, asking_is, drafting_is, followed, following_is, host_agent, version_of, without_is}

-- the first page of a version comes next
abbrev pub state_anew : Option Agent → ℕ → WireState
state_anew a version = Drafts a version 0 []

-- ---- nothing changes

pub passes : (old : HostAgent) (r : WireReply) (s : WireStep) → Hears old.settings old.host old.state r s old.state → HearsSaid old r s old
passes old r s hears = record { hears = hears; stays = refl }

-- ---- a version

pub said_same : (host : List ℕ) (settings : SettingsParts) (node : Option Node) (phase : Phase) (old : HostAgent) (first last : ℕ) → host_agent host settings node phase ≡ old → HasNode node phase
    → is_asking old.state ≡ true → can_go_on (held_by old.state) first last ≡ true → HearsSaid old (reply.Version first last) step.Same (host_agent host settings node Follow)
said_same host settings given phase old first last view there asks goes =
    subst (λ (o : HostAgent). is_asking o.state ≡ true → can_go_on (held_by o.state) first last ≡ true → HearsSaid o (reply.Version first last) step.Same (host_agent host settings given Follow)) view of_view asks goes
  where
    of_view : is_asking (state_of given phase) ≡ true → can_go_on (held_by (state_of given phase)) first last ≡ true → HearsSaid (host_agent host settings given phase) (reply.Version first last) step.Same (host_agent host settings given Follow)
    of_view asks goes =
        let is = asking_is given phase there asks in record {
          hears = subst (λ state. Hears settings host state (reply.Version first last) step.Same (following (agent_in given))) (sym is)
              (version_same settings host (agent_in given) first last (sym (ap (λ state. can_go_on (held_by state) first last) is) ∙ goes));
          stays = refl;
        }

pub said_anew : (host : List ℕ) (settings : SettingsParts) (node : Option Node) (phase fresh : Phase) (old : HostAgent) (first last : ℕ) → host_agent host settings node phase ≡ old → HasNode node phase
    → is_asking old.state ≡ true → can_go_on (held_by old.state) first last ≡ false → state_of node fresh ≡ state_anew (agent_in node) last → HearsSaid old (reply.Version first last) (step.Anew last) (host_agent host settings node fresh)
said_anew host settings given phase fresh old first last view there asks goes anew =
    subst (λ (o : HostAgent). is_asking o.state ≡ true → can_go_on (held_by o.state) first last ≡ false → HearsSaid o (reply.Version first last) (step.Anew last) (host_agent host settings given fresh)) view of_view asks goes
  where
    of_view : is_asking (state_of given phase) ≡ true → can_go_on (held_by (state_of given phase)) first last ≡ false → HearsSaid (host_agent host settings given phase) (reply.Version first last) (step.Anew last) (host_agent host settings given fresh)
    of_view asks goes =
        let is = asking_is given phase there asks in record {
          hears = subst (λ state. Hears settings host state (reply.Version first last) (step.Anew last) (state_of given fresh)) (sym is)
              (subst (λ new. Hears settings host (checking (agent_in given)) (reply.Version first last) (step.Anew last) new) (sym anew)
              (version_anew settings host (agent_in given) first last (sym (ap (λ state. can_go_on (held_by state) first last) is) ∙ goes)));
          stays = refl;
        }

-- ---- pages

module _ (old : HostAgent) (v k : ℕ) (last : Bool) (more : List PageRow) (awaited : awaits_page v k old.state ≡ true) where
  pub said_last : (s : WireStep) (new : HostAgent) → last ≡ true → PutsRows old v (rows_from (drafted old.state ++ more)) s new → HearsSaid old (reply.Page v k last more) s new
  said_last s new is puts = subst (λ l. HearsSaid old (reply.Page v k l more) s new) (sym is) (record {
    hears = page_last old.settings old.host old.state v k more s new.state awaited puts.takes;
    stays = puts.stays;
  })

  -- no page comes after the last number
  pub said_over : last ≡ false → k ≡ last_number → HearsSaid old (reply.Page v k last more) step.Again old
  said_over is over =
      let end : (k == last_number) ≡ true = ap (λ n. n == last_number) over in
      subst (λ l. HearsSaid old (reply.Page v k l more) step.Again old) (sym is)
      (passes old (reply.Page v k false more) step.Again (page_over old.settings old.host old.state v k more awaited end))

  pub said_added : (new : HostAgent) → last ≡ false → (k == last_number) ≡ false → new ≡ record old { state = with_page more old.state } → HearsSaid old (reply.Page v k last more) step.Page new
  said_added new is inner put =
      let state : new.state ≡ with_page more old.state = ap (λ (o : HostAgent). o.state) put in
      subst (λ l. HearsSaid old (reply.Page v k l more) step.Page new) (sym is) (record {
        hears = subst (λ s. Hears old.settings old.host old.state (reply.Page v k false more) step.Page s) (sym state) (page_added old.settings old.host old.state v k more awaited inner);
        stays = put ∙ ap (λ s. record old { state = s }) (sym state);
      })

-- ---- changes

module _ (old : HostAgent) (n : ℕ) (c : List Item) (awaited : awaits_change n old.state ≡ true) where
  pub said_unfit : ((a : Agent) → agent_of old.state ≡ Some a → Fits a.rows c → ⊥) → HearsSaid old (reply.Change n c) step.BadRows old
  said_unfit unfit = passes old (reply.Change n c) step.BadRows (change_unfit old.settings old.host old.state n c awaited unfit)

  pub said_put : (rows : RowLists) (s : WireStep) (new : HostAgent) → ((a : Agent) → agent_of old.state ≡ Some a → Fits a.rows c × (rows ≡ after a.rows c)) → PutsRows old n rows s new → HearsSaid old (reply.Change n c) s new
  said_put rows s new fits puts = record {
    hears = change_put old.settings old.host old.state n c rows s new.state awaited fits puts.takes;
    stays = puts.stays;
  }

-- ---- the version comes first again

module _ (host : List ℕ) (settings : SettingsParts) (node : Option Node) (phase : Phase) (old : HostAgent) (view : host_agent host settings node phase ≡ old) where
  stays_so : host_agent host settings node Check ≡ record old { state = checking (agent_in node) }
  stays_so = ap (λ (o : HostAgent). record o { state = checking (agent_in node) }) view

  pub said_asked : is_following old.state ≡ true → HearsSaid old reply.NoMessage step.Asked (host_agent host settings node Check)
  said_asked follows =
      let f = following_is old.state follows in
      let same : agent_in node ≡ Some f.0 = agent_seen host settings node phase old view ∙ f.1 in
      record {
        hears = subst (λ state. Hears old.settings old.host state reply.NoMessage step.Asked (checking (agent_in node))) (sym f.2) (refl, ap checking same);
        stays = stays_so;
      }

  pub said_moved : is_drafting old.state ≡ true → HearsSaid old reply.VersionMoved step.Restarted (host_agent host settings node Check)
  said_moved drafts =
      let f = drafting_is old.state drafts in
      let same : agent_in node ≡ agent_of old.state = agent_seen host settings node phase old view in
      record {
        hears = subst (λ state. Hears old.settings old.host state reply.VersionMoved step.Restarted (checking (agent_in node))) (sym f.3) (refl, ap checking same ∙ without_is (agent_of old.state));
        stays = stays_so;
      }

  pub said_no_page : is_drafting old.state ≡ true → HearsSaid old reply.NoPage step.Restarted (host_agent host settings node Check)
  said_no_page drafts =
      let f = drafting_is old.state drafts in
      let same : agent_in node ≡ agent_of old.state = agent_seen host settings node phase old view in
      record {
        hears = subst (λ state. Hears old.settings old.host state reply.NoPage step.Restarted (checking (agent_in node))) (sym f.3) (refl, ap checking same ∙ without_is (agent_of old.state));
        stays = stays_so;
      }

-- ---- rows are put in place

-- the test of code
pub sound_by : {X C : Type 0} (settings : SettingsParts) (rows : RowLists) (found : Option X) (none : Bool) → is_some found ≡ not none → (found ≡ None) ↔ (IsConsistent rows × C) → (IsConsistent rows → C → AreSound settings rows) → (AreSound settings rows → C)
    → IsTrue none ↔ AreSound settings rows
sound_by settings rows None true e h sound carried = (λ _. let both = h.0 refl in sound both.0 both.1, λ _. refl)
sound_by settings rows None false e h sound carried = cc
sound_by settings rows (Some x) true e h sound carried = cc
sound_by settings rows (Some x) false e h sound carried = (λ t. absurd (true≢false (sym t)), λ s. let gone = h.1 (s.consistent, carried s) in cc)

pub put_well : (host : List ℕ) (settings : SettingsParts) (node new : Option Node) (phase : Phase) (old : HostAgent) (version : ℕ) (rows : RowLists) → host_agent host settings node phase ≡ old
    → AreSound settings rows → agent_in new ≡ Some (agent_with host version rows (agent_in node)) → PutsRows old version rows (step.Took version) (host_agent host settings new Follow)
put_well host settings given new phase old version rows view sound put =
    subst (λ (o : HostAgent). PutsRows o version rows (step.Took version) (host_agent host settings new Follow)) view (record {
      takes = inl (
        sound,
        ap step.Took (sym (version_of host version rows (agent_of (state_of given phase)))),
        followed new (agent_with host version rows (agent_of (state_of given phase))) (put ∙ ap (λ a. Some (agent_with host version rows a)) (sym (agent_is given phase))),
      );
      stays = refl;
    })

pub put_badly : (old : HostAgent) (version : ℕ) (rows : RowLists) → (AreSound old.settings rows → ⊥) → PutsRows old version rows step.BadRows old
put_badly old version rows unsound = record { takes = inr (unsound, refl, refl); stays = refl }
