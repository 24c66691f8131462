-- What follows from each reply of a server.
use Rattle.std.proofs.Common.{inl, inr, ◌⊎◌, ◌≡◌, ◌==◌, ℕ, ◌-◌, ◌≤◌, List, ◌++◌, Bool, true, false, cond, Option, None, Some, refl, ap, sym, subst, ◌∙◌, arith, length, slice_get, take_all}
use Rattle.std.proofs.lemmas.Bool.Decides.{nat_tests}
use Rattle.std.proofs.lemmas.List.{length-append}
use Rattle.api_types.specs.RowLists.{RowLists}
use Rattle.api_types.specs.declared.change.Item.{Item}
use Rattle.api_types.specs.declared.page.PageRow.{PageRow}
use Rattle.bus_core.specs.History.{History, change_at}
use Rattle.wire_types.specs.Changes.{AreAccepted, after_all, history_of, rows_after}
use Rattle.wire_types.specs.Pages.{all_rows, is_last_page, is_page, page}
use Rattle.wire_types.specs.Replies.{IsReplyOf, change_reply, page_reply, reply_with}
use Rattle.wire_types.specs.declared.ask.WireAsk.{WireAsk}
use Rattle.wire_types.specs.declared.ask.WireAsk.TheVariants as ask
use Rattle.wire_types.specs.declared.reply.WireReply.TheVariants as reply
use Rattle.wire_types.proofs.ChangeLaw.{Reached, change_is, earlier_accepted, earlier_at, earlier_rows, reached}

-- ---- of one moment

pub record ShowsPage (h : History) (version number : ℕ) (last : Bool) (rows : List PageRow) : Type 0 where
  pub now : version ≡ h.version
  pub are : rows ≡ page number (all_rows h.rows)
  pub is_last : last ≡ is_last_page number (all_rows h.rows)

version_at : (h : History) (q : WireAsk) (first last : ℕ) → reply.Version first last ≡ reply_with h q → last ≡ h.version
version_at h ask.Version first last e = cc
version_at h (ask.Page w j) first last e = by (w == h.version) e
  where
    inner : (b : Bool) → reply.Version first last ≡ cond b (reply.Page w j (is_last_page j (all_rows h.rows)) (page j (all_rows h.rows))) reply.NoPage → last ≡ h.version
    inner true e = absurd cc
    inner false e = absurd cc

    by : (b : Bool) → reply.Version first last ≡ cond b (page_reply w j (all_rows h.rows)) reply.VersionMoved → last ≡ h.version
    by true e = inner (is_page j (all_rows h.rows)) e
    by false e = absurd cc
version_at h (ask.Change n) first last e = by (change_at h n) e
  where
    by : (o : Option (List Item)) → reply.Version first last ≡ change_reply n o → last ≡ h.version
    by None e = absurd cc
    by (Some c) e = absurd cc

page_at : (h : History) (q : WireAsk) (version number : ℕ) (last : Bool) (rows : List PageRow) → reply.Page version number last rows ≡ reply_with h q → ShowsPage h version number last rows
page_at h ask.Version version number last rows e = absurd cc
page_at h (ask.Page w j) version number last rows e = by (w == h.version) refl e
  where
    inner : w ≡ h.version → (b : Bool) → reply.Page version number last rows ≡ cond b (reply.Page w j (is_last_page j (all_rows h.rows)) (page j (all_rows h.rows))) reply.NoPage → ShowsPage h version number last rows
    inner same true e =
        let v : version ≡ w = cc in
        let k : number ≡ j = cc in
        let l : last ≡ is_last_page j (all_rows h.rows) = cc in
        let r : rows ≡ page j (all_rows h.rows) = cc in
        record { now = v ∙ same; are = r ∙ ap (λ n. page n (all_rows h.rows)) (sym k); is_last = l ∙ ap (λ n. is_last_page n (all_rows h.rows)) (sym k) }
    inner same false e = absurd cc

    by : (b : Bool) → (w == h.version) ≡ b → reply.Page version number last rows ≡ cond b (page_reply w j (all_rows h.rows)) reply.VersionMoved → ShowsPage h version number last rows
    by true same e = inner (grind (arith, nat_tests, same)) (is_page j (all_rows h.rows)) e
    by false same e = absurd cc
page_at h (ask.Change n) version number last rows e = by (change_at h n) e
  where
    by : (o : Option (List Item)) → reply.Page version number last rows ≡ change_reply n o → ShowsPage h version number last rows
    by None e = absurd cc
    by (Some c) e = absurd cc

change_at_moment : (h : History) (q : WireAsk) (number : ℕ) (c : List Item) → reply.Change number c ≡ reply_with h q → change_at h number ≡ Some c
change_at_moment h ask.Version number c e = absurd cc
change_at_moment h (ask.Page w j) number c e = by (w == h.version) e
  where
    inner : (b : Bool) → reply.Change number c ≡ cond b (reply.Page w j (is_last_page j (all_rows h.rows)) (page j (all_rows h.rows))) reply.NoPage → change_at h number ≡ Some c
    inner true e = absurd cc
    inner false e = absurd cc

    by : (b : Bool) → reply.Change number c ≡ cond b (page_reply w j (all_rows h.rows)) reply.VersionMoved → change_at h number ≡ Some c
    by true e = inner (is_page j (all_rows h.rows)) e
    by false e = absurd cc
change_at_moment h (ask.Change n) number c e = by (change_at h n) refl e
  where
    by : (o : Option (List Item)) → change_at h n ≡ o → reply.Change number c ≡ change_reply n o → change_at h number ≡ Some c
    by None at e = absurd cc
    by (Some d) at e =
        let k : number ≡ n = cc in
        let same : d ≡ c = cc in
        ap (change_at h) k ∙ at ∙ ap Some same

-- ---- of some moment

module _ (Sound : RowLists → Type 0) (opening : RowLists) (cs : List (List Item)) (sound : Sound opening) (may : AreAccepted Sound opening cs) where
  -- the server's history at the moment
  at_moment : (earlier later : List (List Item)) → cs ≡ earlier ++ later → Reached Sound opening earlier (history_of opening earlier)
  at_moment earlier later split = reached Sound opening earlier sound (earlier_accepted Sound opening earlier later (subst (AreAccepted Sound opening) split may))

  shorter : (earlier later : List (List Item)) → cs ≡ earlier ++ later → length earlier ≤ length cs
  shorter earlier later split = let l = ap length split ∙ length-append earlier later in omega (arith, l)

  pub replied_version : (first last : ℕ) → IsReplyOf opening cs (reply.Version first last) → last ≤ length cs
  replied_version first last s = by s.given
    where
      by : (reply.Version first last ≡ reply_with (history_of opening s.earlier) s.question) ⊎ (reply.Version first last ≡ reply.Refused) → last ≤ length cs
      by (inl e) =
          let v = version_at (history_of opening s.earlier) s.question first last e in
          let r = (at_moment s.earlier s.later s.moment).version in
          let most = shorter s.earlier s.later s.moment in
          omega (arith, v, r, most)
      by (inr e) = absurd cc

  pub record IsPage (version number : ℕ) (last : Bool) (rows : List PageRow) : Type 0 where
    pub within : version ≤ length cs
    pub are : rows ≡ page number (all_rows (rows_after opening cs version))
    pub is_last : last ≡ is_last_page number (all_rows (rows_after opening cs version))

  pub replied_page : (version number : ℕ) (last : Bool) (rows : List PageRow) → IsReplyOf opening cs (reply.Page version number last rows) → IsPage version number last rows
  replied_page version number last rows s = by s.given
    where
      by : (reply.Page version number last rows ≡ reply_with (history_of opening s.earlier) s.question) ⊎ (reply.Page version number last rows ≡ reply.Refused) → IsPage version number last rows
      by (inl e) =
          let p = page_at (history_of opening s.earlier) s.question version number last rows e in
          let r = at_moment s.earlier s.later s.moment in
          let long = r.version in
          let v = p.now in
          let now : version ≡ length s.earlier = omega (arith, long, v) in
          let all : rows_after opening cs version ≡ (history_of opening s.earlier).rows =
          ap (λ l. rows_after opening l version) s.moment ∙ earlier_rows opening s.earlier s.later version (omega (arith, now)) ∙ ap (after_all opening) (take_all version s.earlier (omega (arith, now))) ∙ sym r.rows in
          let most = shorter s.earlier s.later s.moment in
          record {
            within = omega (arith, now, most);
            are = p.are ∙ ap (λ l. page number (all_rows l)) (sym all);
            is_last = p.is_last ∙ ap (λ l. is_last_page number (all_rows l)) (sym all);
          }
      by (inr e) = absurd cc

  pub replied_change : (number : ℕ) (c : List Item) → IsReplyOf opening cs (reply.Change number c) → (1 ≤ number) × (slice_get cs (number - 1) ≡ Some c)
  replied_change number c s = by s.given
    where
      by : (reply.Change number c ≡ reply_with (history_of opening s.earlier) s.question) ⊎ (reply.Change number c ≡ reply.Refused) → (1 ≤ number) × (slice_get cs (number - 1) ≡ Some c)
      by (inl e) =
          let at = change_at_moment (history_of opening s.earlier) s.question number c e in
          let r = change_is Sound opening s.earlier (history_of opening s.earlier) (at_moment s.earlier s.later s.moment) number c at in
          (r.0, ap (λ l. slice_get l (number - 1)) s.moment ∙ earlier_at s.earlier s.later (number - 1) c r.1)
      by (inr e) = absurd cc
