-- Worlds that are alike stay alike: which changes led to the rows is told by nobody.
use Rattle.std.proofs.Common.{inl, inr, ◌⊎◌, ◌≡◌, ℕ, suc, ◌+◌, ◌-◌, ◌≤◌, List, [], ◌∷◌, Bool, true, false, cond, Option, None, Some, refl, ap, sym, subst, ◌∙◌, arith, length, map}
use Rattle.std.specs.Str.{bytes_eq}
use Rattle.api_types.specs.Lists.{Each}
use Rattle.api_types.specs.Rows.{Fits, after}
use Rattle.api_types.specs.declared.change.Item.{Item}
use Rattle.plane_types.specs.Verdicts.{fabric_verdict}
use Rattle.plane_types.specs.Node.{Agent, after_change, after_forget, after_restart, after_resync, follows, host_of}
use Rattle.bus_core.specs.History.{accepted, change_at, first_kept, rows_at}
use Rattle.bus_core.specs.Kept.{with_newest}
use Rattle.bus_core.proofs.HistoryLaw.{both_kept, kept_within, newest_kept, newest_length, rows_now, rows_still}
use Rattle.world_laws.specs.Alike.{AreAlike, accepts}
use Rattle.world_laws.specs.Lead.{IsWorld}
use Rattle.world_laws.specs.Steps.{Accept, Deliver, Forget, May, Resync, Restart, Send, Settle, Step, add_from, at_host, deliver_by, deliver_kept, holds, step}
use Rattle.world_laws.specs.World.{World}
use Rattle.world_laws.proofs.AgentLaw.{IsAgent, follows_held, next_fits}
use Rattle.world_laws.proofs.StepLaw.{Holds, accepted_holds, holds_of}

map_alike : (f g : Agent → Agent) (agents : List Agent) → Each (λ a. f a ≡ g a) agents → map f agents ≡ map g agents
map_alike f g [] each = refl
map_alike f g (a ∷ agents) each = λ j. each 0 a refl j ∷ map_alike f g agents (λ k b at. each (suc k) b at) j

cond_alike : (b : Bool) (x y z : Agent) → x ≡ y → cond b x z ≡ cond b y z
cond_alike true x y z e = e
cond_alike false x y z e = refl

module _ (w v : World) (p : Holds w) (q : Holds v) (same : AreAlike w v) where
  -- a host is told the same by both changes
  told_alike : (n : ℕ) (c d : List Item) → change_at w.history n ≡ Some c → change_at v.history n ≡ Some d → Each (λ (a : Agent). after_change n c a ≡ after_change n d a) w.agents
  told_alike n c d at bt k a there = by (follows n a.held) refl
    where
      by : (b : Bool) → follows n a.held ≡ b → cond b (after_resync n (after a.rows c) a) a ≡ cond b (after_resync n (after a.rows d) a) a
      by false e = refl
      by true e =
          let held = follows_held n a.held e in
          let within = kept_within w.history n c p.history.numbered at in
          let f = next_fits w.settings w.history p.history a held.0 n c (p.agents k a there).led at held.1 held.2 in
          let g = next_fits v.settings v.history q.history a held.0 n d (subst (Each (IsAgent v.settings v.history)) (sym same.agents) q.agents k a there).led bt held.1 held.2 in
          ap (λ rows. after_resync n rows a) (f.leads ∙ same.told n (omega (arith, within)) within.1 ∙ sym g.leads)

  -- the same history, and other hosts
  with_agents : (xs ys : List Agent) → xs ≡ ys → AreAlike (record w { agents = xs }) (record v { agents = ys })
  with_agents xs ys e = record { settings = same.settings; manual = same.manual; rows = same.rows; version = same.version; kept = same.kept; told = same.told; agents = e }

  delivered_alike : (name : List ℕ) (n : ℕ) (o o' : Option (List Item)) → change_at w.history n ≡ o → change_at v.history n ≡ o' → AreAlike (deliver_kept w name n o) (deliver_kept v name n o')
  delivered_alike name n None None at bt = same
  delivered_alike name n (Some c) None at bt = let d = both_kept w.history v.history n c same.version same.kept at in let none : None ≡ Some d.0 = sym bt ∙ d.1 in cc
  delivered_alike name n None (Some d) at bt = let c = both_kept v.history w.history n d (sym same.version) (sym same.kept) bt in let none : None ≡ Some c.0 = sym at ∙ c.1 in cc
  delivered_alike name n (Some c) (Some d) at bt =
      with_agents (at_host name (after_change n c) w.agents) (at_host name (after_change n d) v.agents)
      (map_alike (λ (a : Agent). cond (bytes_eq name a.name) (after_change n c a) a) (λ (a : Agent). cond (bytes_eq name a.name) (after_change n d a) a) w.agents
      (λ k a there. cond_alike (bytes_eq name a.name) (after_change n c a) (after_change n d a) a (told_alike n c d at bt k a there))
      ∙ ap (at_host name (after_change n d)) same.agents)

  pub others_alike : (s : Step) → accepts s ≡ false → AreAlike (step w s) (step v s)
  others_alike (Accept c) e = absurd cc
  others_alike (Deliver name n) e = delivered_alike name n (change_at w.history n) (change_at v.history n) refl refl
  others_alike (Resync name) e = with_agents _ _ (λ j. at_host name (after_resync (same.version j) (same.rows j)) (same.agents j))
  others_alike (Restart name) e = with_agents _ _ (λ j. at_host name after_restart (same.agents j))
  others_alike (Forget name) e = with_agents _ _ (λ j. at_host name after_forget (same.agents j))
  others_alike Settle e = with_agents _ _ (λ j. map (λ (a : Agent). cond (holds (same.version j) a.held) a (after_resync (same.version j) (same.rows j) a)) (same.agents j))
  others_alike (Send event) e = with_agents _ _ (λ j. add_from 0 (same.agents j) (fabric_verdict (map host_of (same.agents j)) event).fresh)

  -- changes that lead to the same rows
  accepted_alike : (c d : List Item) → Fits w.history.rows c → Fits v.history.rows d → after w.history.rows c ≡ after v.history.rows d → AreAlike (record w { history = accepted w.history c }) (record v { history = accepted v.history d })
  accepted_alike c d fits fits' leads = record {
    settings = same.settings;
    manual = same.manual;
    rows = leads;
    version = ap (λ n. n + 1) same.version;
    kept = newest_length w.history.kept c ∙ ap (λ n. n + 1 - (n + 1 - 1024)) same.kept ∙ sym (newest_length v.history.kept d);
    told = λ k from to. by k from (last_or k to);
    agents = same.agents;
  }
    where
      long : length (with_newest w.history.kept c) ≡ length (with_newest v.history.kept d)
      long = newest_length w.history.kept c ∙ ap (λ n. n + 1 - (n + 1 - 1024)) same.kept ∙ sym (newest_length v.history.kept d)

      last_or : (k : ℕ) → k ≤ w.history.version + 1 → (k ≡ w.history.version + 1) ⊎ (k ≤ w.history.version)
      last_or k to = grind (arith, to)

      new_w : length (with_newest w.history.kept c) ≤ w.history.version + 1
      new_w = let l = newest_length w.history.kept c in let m = p.history.numbered in omega (arith, l, m)

      new_v : length (with_newest v.history.kept d) ≤ v.history.version + 1
      new_v = let l = newest_length v.history.kept d in let m = q.history.numbered in omega (arith, l, m)

      by : (k : ℕ) → first_kept (accepted w.history c) ≤ k + 1 → (k ≡ w.history.version + 1) ⊎ (k ≤ w.history.version) → rows_at (accepted w.history c) k ≡ rows_at (accepted v.history d) k
      by k from (inl e) =
          ap (rows_at (accepted w.history c)) e ∙ rows_now (accepted w.history c) new_w ∙ leads ∙ sym (rows_now (accepted v.history d) new_v)
          ∙ ap (rows_at (accepted v.history d)) (sym (e ∙ ap (λ n. n + 1) same.version))
      by k from (inr less) =
          let a = rows_still w.history c p.history.few p.history.numbered fits k from less in
          let first : first_kept (accepted v.history d) ≤ k + 1 = let x = same.version in omega (arith, x, long, from) in
          let b = rows_still v.history d q.history.few q.history.numbered fits' k first (subst (λ n. k ≤ n) same.version less) in
          a.1 ∙ same.told k a.0 less ∙ sym b.1

pub accepts_alike : (w v : World) → IsWorld w → IsWorld v → AreAlike w v → (c d : List Item) → May w (Accept c) → May v (Accept d) → after w.history.rows c ≡ after v.history.rows d
    → AreAlike (step w (Accept c)) (step v (Accept d))
accepts_alike w v iw iv same c d may may' leads = record {
  settings = start.settings;
  manual = start.manual;
  rows = start.rows;
  version = start.version;
  kept = start.kept;
  told = start.told;
  agents = by w.manual v.manual same.manual;
}
  where
    w' : World
    w' = record w { history = accepted w.history c }

    v' : World
    v' = record v { history = accepted v.history d }

    p : Holds w
    p = holds_of w iw

    q : Holds v
    q = holds_of v iv

    start : AreAlike w' v'
    start = accepted_alike w v p q same c d may.0 may'.0 leads

    tells : Each (λ (a : Agent). after_change (w.history.version + 1) c a ≡ after_change (w.history.version + 1) d a) w.agents
    tells = told_alike w' v' (accepted_holds w c may.0 may.1 p) (accepted_holds v d may'.0 may'.1 q) start (w.history.version + 1) c d
        (newest_kept w.history c p.history.few p.history.numbered) (ap (λ n. change_at (accepted v.history d) (n + 1)) same.version ∙ newest_kept v.history d q.history.few q.history.numbered)

    by : (a b : Bool) → a ≡ b → deliver_by a (w.history.version + 1) c w.agents ≡ deliver_by b (v.history.version + 1) d v.agents
    by true true e = same.agents
    by false false e =
        map_alike (after_change (w.history.version + 1) c) (after_change (w.history.version + 1) d) w.agents tells
        ∙ (λ j. deliver_by false (same.version j + 1) d (same.agents j))
    by true false e = cc
    by false true e = cc

pub steps_alike : (w v : World) → IsWorld w → IsWorld v → AreAlike w v → (s : Step) → accepts s ≡ false → AreAlike (step w s) (step v s)
steps_alike w v iw iv same s e = others_alike w v (holds_of w iw) (holds_of v iv) same s e
