-- What an agent makes of each reply keeps it true to the server's changes.
use Rattle.std.proofs.Common.{inl, inr, ◌≡◌, ◌==◌, ◌&&◌, ℕ, zero, suc, ◌+◌, ◌-◌, ◌*◌, ◌≤◌, List, [], ◌∷◌, ◌++◌, Bool, true, false, cond, Option, None, Some, refl, ap, sym, subst, ◌∙◌, arith, length, slice_get, take}
use Rattle.std.specs.Prelude.{IfSome, ⊤}
use Rattle.std.proofs.lemmas.Bool.Decides.{nat_tests}
use Rattle.api_types.specs.Lists.{Each}
use Rattle.api_types.specs.RowLists.{RowLists}
use Rattle.api_types.specs.Rows.{Fits, after}
use Rattle.api_types.specs.declared.change.Item.{Item}
use Rattle.api_types.specs.declared.page.PageRow.{PageRow}
use Rattle.api_types.proofs.ListLemmas.{and_both, none_some, some_equal}
use Rattle.net_settings.specs.Settings.{SettingsParts}
use Rattle.plane_types.specs.Realises.{Realises}
use Rattle.plane_types.specs.Node.{Agent, after_resync}
use Rattle.plane_types.proofs.RealisedTags.{are_tags}
use Rattle.world_laws.specs.World.{AreSound}
use Rattle.world_laws.proofs.AgentLaw.{no_tags, realised_tables}
use Rattle.wire_types.specs.Changes.{AreAccepted, rows_after}
use Rattle.wire_types.specs.Pages.{all_rows, is_last_page, page, page_size, rows_from}
use Rattle.wire_laws.specs.Promises.{HasRows, NotBelow, held_by, is_bad}
use Rattle.wire_types.specs.Replies.{IsReplyOf}
use Rattle.wire_types.specs.declared.reply.WireReply.{WireReply}
use Rattle.wire_types.specs.declared.reply.WireReply.TheVariants as reply
use Rattle.wire_types.specs.declared.step.WireStep.{WireStep}
use Rattle.wire_types.specs.declared.step.WireStep.TheVariants as step
use Rattle.wire_laws.specs.WireStates.{WireState, Lost, Check, Draft, Held, agent_of, last_number}
use Rattle.wire_laws.specs.Hearing.{To, PutRows, PutChange, Hears, HearsAll, Makes, after_page, agent_with, can_follow, without_draft}
use Rattle.wire_types.proofs.ChangeLaw.{leads, sound_at}
use Rattle.wire_types.proofs.PageLaw.{page_last, page_next, rows_back}
use Rattle.wire_types.proofs.ReplyLaw.{replied_change, replied_page, replied_version}

module _ (settings : SettingsParts) (name : List ℕ) (opening : RowLists) (cs : List (List Item)) (sound : AreSound settings opening) (may : AreAccepted (AreSound settings) opening cs) where
  abbrev pub Right : Agent → Type 0
  Right a = HasRows name opening cs a

  -- what is held is right; a draft has the first pages of its version, which isn't below what is held
  pub record IsDraft (o : Option Agent) (version number : ℕ) (rows : List PageRow) : Type 0 where
    pub right : IfSome o Right
    pub above : IfSome o (λ a. a.version ≤ version)
    pub within : version ≤ length cs
    pub so_far : rows ≡ take (page_size * number) (all_rows (rows_after opening cs version))

  abbrev pub IsTrueTo : WireState → Type 0
  IsTrueTo Lost = ⊤
  IsTrueTo (Check a) = Right a
  IsTrueTo (Draft o version number rows) = IsDraft o version number rows
  IsTrueTo (Held a) = Right a

  pub record Goes (old : WireState) (made : WireStep) (new : WireState) : Type 0 where
    pub true_to : IsTrueTo new
    pub good : is_bad made ≡ false
    pub rises : NotBelow (held_by old) (held_by new)

  same_held : (o : Option ℕ) → NotBelow o o
  same_held None = tt
  same_held (Some v) = omega arith

  -- a step that leaves what is held
  stays : (old : WireState) (made : WireStep) (next : WireState) (s : WireStep) (new : WireState) → IsTrueTo next → is_bad made ≡ false → NotBelow (held_by old) (held_by next) → (s ≡ made) × (new ≡ next) → Goes old s new
  stays old made next s new is good rises h = record {
    true_to = subst IsTrueTo (sym h.1) is;
    good = ap is_bad h.0 ∙ good;
    rises = subst (λ a. NotBelow (held_by old) (held_by a)) (sym h.1) rises;
  }

  again : (old : WireState) (s : WireStep) (new : WireState) → IsTrueTo old → (s ≡ step.Again) × (new ≡ old) → Goes old s new
  again old s new is h = stays old step.Again old s new is refl (same_held (held_by old)) h

  -- rows of a version, put in place of what was held
  pub with_right : (o : Option Agent) (version : ℕ) (rows : RowLists) → IfSome o Right → version ≤ length cs → rows ≡ rows_after opening cs version → Right (agent_with name version rows o)
  with_right None version rows right most same =
      let good : AreSound settings rows = subst (AreSound settings) (sym same) (sound_at (AreSound settings) opening cs sound may version) in
      record { name = refl; held = refl; version = most; rows = same; tables = realised_tables rows name [] no_tags good.consistent }
  with_right (Some a) version rows right most same =
      let good : AreSound settings rows = subst (AreSound settings) (sym same) (sound_at (AreSound settings) opening cs sound may version) in
      record {
        name = right.name;
        held = refl;
        version = most;
        rows = same;
        tables = subst (λ n. Realises rows name (after_resync version rows (record a { name = n })).tables) (sym right.name) (realised_tables rows name a.tables.tags (are_tags a.rows name a.tables.tags right.tables.tags) good.consistent);
      }

  -- ---- what is held, and a version

  check_version : (a : Agent) (first last : ℕ) (s : WireStep) (new : WireState) → Right a → last ≤ length cs → (b : Bool) → can_follow a.version first last ≡ b
      → Makes settings name (Check a) (cond b (To step.Same (Held a)) (To (step.Anew last) (Draft (Some a) last 0 []))) s new → Goes (Check a) s new
  check_version a first last s new right most true e h = stays (Check a) step.Same (Held a) s new right refl (omega arith) h
  check_version a first last s new right most false e h =
      let below : a.version ≤ last = grind (arith, nat_tests, e) in
      stays (Check a) (step.Anew last) (Draft (Some a) last 0 []) s new (record { right = right; above = below; within = most; so_far = refl }) refl (omega arith) h

  -- ---- a draft, and a page

  risen : (o : Option Agent) (version number : ℕ) (rows : List PageRow) (v : ℕ) → IfSome o (λ a. a.version ≤ v) → NotBelow (held_by (Draft o version number rows)) (Some v)
  risen None version number rows v above = tt
  risen (Some a) version number rows v above = above

  new_version : (o : Option Agent) (version : ℕ) (rows : RowLists) → (agent_with name version rows o).version ≡ version
  new_version None version rows = refl
  new_version (Some a) version rows = refl

  put_rows : (o : Option Agent) (version number : ℕ) (rows all : List PageRow) (s : WireStep) (new : WireState) → IsDraft o version number rows
      → all ≡ all_rows (rows_after opening cs version) → Makes settings name (Draft o version number rows) (PutRows version all) s new → Goes (Draft o version number rows) s new
  put_rows o version number rows all s new d same (inl h) =
      let there : rows_from all ≡ rows_after opening cs version = ap rows_from same ∙ rows_back (rows_after opening cs version) in
      let right = with_right o version (rows_from all) d.right d.within there in
      record {
        true_to = subst IsTrueTo (sym h.2) right;
        good = ap is_bad h.1;
        rises = subst (λ a. NotBelow (held_by (Draft o version number rows)) (held_by a)) (sym h.2)
            (subst (λ v. NotBelow (held_by (Draft o version number rows)) (Some v)) (sym (new_version o version (rows_from all))) (risen o version number rows version d.above));
      }
  put_rows o version number rows all s new d same (inr h) =
      let there : rows_from all ≡ rows_after opening cs version = ap rows_from same ∙ rows_back (rows_after opening cs version) in
      absurd (h.0 (subst (AreSound settings) (sym there) (sound_at (AreSound settings) opening cs sound may version)))

  next_page : (o : Option Agent) (version number : ℕ) (rows more : List PageRow) (s : WireStep) (new : WireState) → IsDraft o version number rows
      → rows ++ more ≡ take (page_size * suc number) (all_rows (rows_after opening cs version)) → (b : Bool)
      → Makes settings name (Draft o version number rows) (cond b (To step.Again (Draft o version number rows)) (To step.Page (Draft o version (suc number) (rows ++ more)))) s new → Goes (Draft o version number rows) s new
  next_page o version number rows more s new d same true h = again (Draft o version number rows) s new d h
  next_page o version number rows more s new d same false h =
      stays (Draft o version number rows) step.Page (Draft o version (suc number) (rows ++ more)) s new (record { right = d.right; above = d.above; within = d.within; so_far = same }) refl
      (same_held (held_by (Draft o version number rows))) h

  this_page : (o : Option Agent) (version number : ℕ) (rows : List PageRow) (is_last : Bool) (more : List PageRow) (s : WireStep) (new : WireState) → IsDraft o version number rows
      → more ≡ page number (all_rows (rows_after opening cs version)) → is_last ≡ is_last_page number (all_rows (rows_after opening cs version))
      → Makes settings name (Draft o version number rows) (after_page o version number is_last (rows ++ more) (Draft o version number rows)) s new → Goes (Draft o version number rows) s new
  this_page o version number rows true more s new d same last h =
      put_rows o version number rows (rows ++ more) s new d ((λ j. d.so_far j ++ same j) ∙ page_last number (all_rows (rows_after opening cs version)) (sym last)) h
  this_page o version number rows false more s new d same last h =
      next_page o version number rows more s new d ((λ j. d.so_far j ++ same j) ∙ page_next number (all_rows (rows_after opening cs version))) (number == last_number) h

  draft_page : (o : Option Agent) (version number : ℕ) (rows : List PageRow) (w k : ℕ) (is_last : Bool) (more : List PageRow) (s : WireStep) (new : WireState) → IsDraft o version number rows
      → IsReplyOf opening cs (reply.Page w k is_last more) → (b : Bool) → (w == version) && (k == number) ≡ b
      → Makes settings name (Draft o version number rows) (cond b (after_page o version number is_last (rows ++ more) (Draft o version number rows)) (To step.Again (Draft o version number rows))) s new
      → Goes (Draft o version number rows) s new
  draft_page o version number rows w k is_last more s new d said false e h = again (Draft o version number rows) s new d h
  draft_page o version number rows w k is_last more s new d said true e h =
      let both = and_both (w == version) (k == number) e in
      let v : w ≡ version = grind (arith, nat_tests, both) in
      let n : k ≡ number = grind (arith, nat_tests, both) in
      let p = replied_page (AreSound settings) opening cs sound may w k is_last more said in
      this_page o version number rows is_last more s new d (p.are ∙ (λ j. page (n j) (all_rows (rows_after opening cs (v j))))) (p.is_last ∙ (λ j. is_last_page (n j) (all_rows (rows_after opening cs (v j))))) h

  restarted : (o : Option Agent) (version number : ℕ) (rows : List PageRow) (s : WireStep) (new : WireState) → IsDraft o version number rows → (s ≡ step.Restarted) × (new ≡ without_draft o) → Goes (Draft o version number rows) s new
  restarted None version number rows s new d h = stays (Draft None version number rows) step.Restarted Lost s new tt refl tt h
  restarted (Some a) version number rows s new d h = stays (Draft (Some a) version number rows) step.Restarted (Check a) s new d.right refl (omega arith) h

  -- ---- a change

  put_change : (a : Agent) (number : ℕ) (c : List Item) (s : WireStep) (new : WireState) → Right a → IsReplyOf opening cs (reply.Change number c) → (b : Bool) → (number == a.version + 1) ≡ b
      → Makes settings name (Held a) (cond b (PutChange a c) (To step.Again (Held a))) s new → Goes (Held a) s new
  put_change a number c s new right said false e h = again (Held a) s new right h
  put_change a number c s new right said true e h = by h
    where
      next : number ≡ a.version + 1
      next = grind (arith, nat_tests, e)

      there : slice_get cs a.version ≡ Some c
      there = let one_less : number - 1 ≡ a.version = omega (arith, next) in sym (ap (slice_get cs) one_less) ∙ (replied_change (AreSound settings) opening cs sound may number c said).1

      rows : after a.rows c ≡ rows_after opening cs (a.version + 1)
      rows = let one : suc a.version ≡ a.version + 1 = omega arith in
          ap (λ r. after r c) right.rows ∙ sym (leads (AreSound settings) opening cs may a.version c there).rows ∙ ap (rows_after opening cs) one

      most : a.version + 1 ≤ length cs
      most = let w = (leads (AreSound settings) opening cs may a.version c there).within in omega (arith, w)

      fits : Fits a.rows c × AreSound settings (after a.rows c)
      fits = (
        subst (λ r. Fits r c) (sym right.rows) (leads (AreSound settings) opening cs may a.version c there).fits,
        subst (λ r. AreSound settings (after r c)) (sym right.rows) (leads (AreSound settings) opening cs may a.version c there).sound,
      )

      by : Makes settings name (Held a) (PutChange a c) s new → Goes (Held a) s new
      by (inl h) = record {
        true_to = subst IsTrueTo (sym h.2) (with_right (Some a) (a.version + 1) (after a.rows c) right most rows);
        good = ap is_bad h.1;
        rises = subst (λ x. NotBelow (held_by (Held a)) (held_by x)) (sym h.2) (omega arith);
      }
      by (inr h) = absurd (h.0 fits)

  -- ---- any reply

  pub hears : (a : WireState) (r : WireReply) (s : WireStep) (new : WireState) → IsTrueTo a → IsReplyOf opening cs r → Hears settings name a r s new → Goes a s new
  hears Lost (reply.Version first last) s new is said h =
      stays Lost (step.Anew last) (Draft None last 0 []) s new (record { right = tt; above = tt; within = replied_version (AreSound settings) opening cs sound may first last said; so_far = refl }) refl tt h
  hears Lost (reply.Page w k l more) s new is said h = again Lost s new is h
  hears Lost (reply.Change n c) s new is said h = again Lost s new is h
  hears Lost reply.NoMessage s new is said h = again Lost s new is h
  hears Lost reply.VersionMoved s new is said h = again Lost s new is h
  hears Lost reply.NoPage s new is said h = again Lost s new is h
  hears Lost reply.Refused s new is said h = again Lost s new is h
  hears (Check a) (reply.Version first last) s new is said h = check_version a first last s new is (replied_version (AreSound settings) opening cs sound may first last said) (can_follow a.version first last) refl h
  hears (Check a) (reply.Page w k l more) s new is said h = again (Check a) s new is h
  hears (Check a) (reply.Change n c) s new is said h = again (Check a) s new is h
  hears (Check a) reply.NoMessage s new is said h = again (Check a) s new is h
  hears (Check a) reply.VersionMoved s new is said h = again (Check a) s new is h
  hears (Check a) reply.NoPage s new is said h = again (Check a) s new is h
  hears (Check a) reply.Refused s new is said h = again (Check a) s new is h
  hears (Draft o v k rows) (reply.Version first last) s new is said h = again (Draft o v k rows) s new is h
  hears (Draft o v k rows) (reply.Page w j l more) s new is said h = draft_page o v k rows w j l more s new is said ((w == v) && (j == k)) refl h
  hears (Draft o v k rows) (reply.Change n c) s new is said h = again (Draft o v k rows) s new is h
  hears (Draft o v k rows) reply.NoMessage s new is said h = again (Draft o v k rows) s new is h
  hears (Draft o v k rows) reply.VersionMoved s new is said h = restarted o v k rows s new is h
  hears (Draft o v k rows) reply.NoPage s new is said h = restarted o v k rows s new is h
  hears (Draft o v k rows) reply.Refused s new is said h = again (Draft o v k rows) s new is h
  hears (Held a) (reply.Version first last) s new is said h = again (Held a) s new is h
  hears (Held a) (reply.Page w k l more) s new is said h = again (Held a) s new is h
  hears (Held a) (reply.Change n c) s new is said h = put_change a n c s new is said (n == a.version + 1) refl h
  hears (Held a) reply.NoMessage s new is said h = stays (Held a) step.Asked (Check a) s new is refl (omega arith) h
  hears (Held a) reply.VersionMoved s new is said h = again (Held a) s new is h
  hears (Held a) reply.NoPage s new is said h = again (Held a) s new is h
  hears (Held a) reply.Refused s new is said h = again (Held a) s new is h

  -- ---- one reply after the other

  above : (o p q : Option ℕ) → NotBelow o p → NotBelow p q → NotBelow o q
  above None p q x y = tt
  above (Some v) None q x y = absurd x
  above (Some v) (Some w) None x y = absurd y
  above (Some v) (Some w) (Some u) x y = omega (arith, x, y)

  pub hears_all : (a : WireState) (rs : List WireReply) (ss : List WireStep) (new : WireState) → IsTrueTo a → Each (IsReplyOf opening cs) rs → HearsAll settings name a rs ss new
      → IsTrueTo new × Each (λ s. is_bad s ≡ false) ss × NotBelow (held_by a) (held_by new)
  unfolding HearsAll
  hears_all a [] ss new is said h =
      (subst IsTrueTo (sym h.1) is, λ k s at. none_some s _ (sym (ap (λ l. slice_get l k) h.0) ∙ at), subst (λ x. NotBelow (held_by a) (held_by x)) (sym h.1) (same_held (held_by a)))
  hears_all a (r ∷ rs) ss new is said (s, next, rest, split, one, more) =
      let g = hears a r s next is (said 0 r refl) one in
      let f = hears_all next rs rest new g.true_to (λ k x at. said (suc k) x at) more in
      (f.0, subst (Each (λ s. is_bad s ≡ false)) (sym split) (joined s rest g.good f.1), above (held_by a) (held_by next) (held_by new) g.rises f.2)
    where
      joined : (s : WireStep) (rest : List WireStep) → is_bad s ≡ false → Each (λ s. is_bad s ≡ false) rest → Each (λ s. is_bad s ≡ false) (s ∷ rest)
      joined s rest good all zero x at = ap is_bad (sym (some_equal s x at)) ∙ good
      joined s rest good all (suc k) x at = all k x at

  held_of : (a : WireState) (v : ℕ) → IsTrueTo a → held_by a ≡ Some v → (g : Agent) × (agent_of a ≡ Some g) × HasRows name opening cs g × (g.version ≡ v)
  held_of Lost v is h = none_some v _ h
  held_of (Check a) v is h = (a, refl, is, some_equal a.version v h)
  held_of (Draft None w k rows) v is h = none_some v _ h
  held_of (Draft (Some a) w k rows) v is h = (a, refl, is.right, some_equal a.version v h)
  held_of (Held a) v is h = (a, refl, is, some_equal a.version v h)

  pub from_lost : (rs : List WireReply) → Each (IsReplyOf opening cs) rs → (ss : List WireStep) (new : WireState) → HearsAll settings name Lost rs ss new → (v : ℕ) → held_by new ≡ Some v
      → (g : Agent) × (agent_of new ≡ Some g) × HasRows name opening cs g × (g.version ≡ v)
  from_lost rs said ss new h v held = held_of new v (hears_all Lost rs ss new tt said h).0 held

  pub later_steps : (rs more : List WireReply) → Each (IsReplyOf opening cs) rs → Each (IsReplyOf opening cs) more → (ss later : List WireStep) (a next : WireState) → HearsAll settings name Lost rs ss a → HearsAll settings name a more later next
      → Each (λ s. is_bad s ≡ false) later × NotBelow (held_by a) (held_by next)
  later_steps rs more said said' ss later a next h h' = let f = hears_all a more later next (hears_all Lost rs ss a tt said h).0 said' h' in (f.1, f.2)
