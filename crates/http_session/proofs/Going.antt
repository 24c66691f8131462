-- How stretches of a session join.
use Rattle.std.proofs.Common.{[], ◌∷◌, ◌≡◌, ℕ, ◌+◌, ◌-◌, ◌≤◌, List, ◌++◌, refl, sym, ap, subst, ◌∙◌, arith, length-append, append_assoc, append-nil, min, ◌^◌, ◌⊎◌, inl, inr, ◌<◌, length}
use Rattle.std.specs.Io.KnownBytes.{Appends}
use Rattle.std.proofs.KnownBytes.{Appends-trans, Appends-nil, Consumes-trans, Consumes-nil}
use Rattle.http_heads.specs.Heads.{Asked}
use Rattle.http_heads.proofs.Extends.{Takes-append}
use Rattle.keeper_core.specs.Counts.{RoseBy}
use Rattle.keeper_core.specs.Ends.{SinkTold, SourceTold}
use Rattle.keeper_core.specs.Kept.{KeeperTold}
use Rattle.http_session.specs.Told.{Told, told_bytes, told_faults, replies, Fixed, Stage}
use Rattle.http_session.specs.Reading.{Reads}
use Rattle.http_session.specs.Serves.{IsFlushed, Moment, Answers, Goes, scene, stage_of}

rose_under : (top n m a b c : ℕ) → min (a + n) top ≤ b → min (b + m) top ≤ c → min (a + (n + m)) top ≤ c
rose_under top n m a b c p q = omega arith

rose_on : (n m a b c : ℕ) → RoseBy n a b → RoseBy m b c → RoseBy (n + m) a c
rose_on n m a b c p q = rose_under (2 ^ 64 - 1) n m a b c p q

rose_none : (a : ℕ) → RoseBy 0 a a
rose_none a = omega arith

pub replies_join : (ts us : List Told) → replies (ts ++ us) ≡ replies ts ++ replies us
replies_join [] us = refl
replies_join (t ∷ ts) us = ap (λ l. told_bytes t ++ l) (replies_join ts us) ∙ sym (append_assoc (told_bytes t) (replies ts) (replies us))

no_reply : (A : Type 0) → A ⊎ (0 < length {A = Told} []) → A
no_reply A (inl a) = a
no_reply A (inr lt) = absurd (omega (arith, lt))

flushed_on : (A B : Type 0) (ts us : List Told) → (A ⊎ (0 < length ts) → B) → A ⊎ (0 < length (ts ++ us)) → B ⊎ (0 < length us)
flushed_on A B ts [] p (inl a) = inl (p (inl a))
flushed_on A B ts [] p (inr lt) = inl (p (inr (omega (arith, lt, length-append ts []))))
flushed_on A B ts (u ∷ us) p f = inr (omega arith)

-- how many replies say that the store failed
abbrev pub faults : List Told → ℕ
faults [] = 0
faults (told ∷ tolds) = told_faults told + faults tolds

module _ {W : Type 0} (step : W → Asked → List ℕ → W → Type 0) (fixed : Fixed W) where
  -- over a session the store's count rises by as many as there are such replies
  pub all_rose : (a b : Stage W) (bytes rest : List ℕ) (tolds : List Told) → Answers step fixed a bytes tolds b rest → RoseBy (faults tolds) a.store_faults b.store_faults
  all_rose a b bytes rest [] h = subst (λ (s : Stage W). RoseBy 0 a.store_faults s.store_faults) (sym h.0) (rose_none a.store_faults)
  all_rose a b bytes rest (t ∷ tolds) h =
      let mid = h.4.0 in
      rose_on (told_faults t) (faults tolds) a.store_faults mid.store_faults b.store_faults h.4.1.faults (all_rose mid b h.1 rest tolds h.4.2)

  -- bytes that come later change nothing of what was answered, and what is answered then comes after it
  pub answers_join : (w x y : Stage W) (bytes left more rest : List ℕ) (ts us : List Told)
      → Answers step fixed w bytes ts x left → Answers step fixed x (left ++ more) us y rest → Answers step fixed w (bytes ++ more) (ts ++ us) y rest
  answers_join w x y bytes left more rest [] us p q =
      subst (λ v. Answers step fixed v (bytes ++ more) us y rest) p.0 (subst (λ l. Answers step fixed x (l ++ more) us y rest) p.1 q)
  answers_join w x y bytes left more rest (t ∷ ts) us p q =
      (p.0, p.1 ++ more, Takes-append bytes p.1 more p.0 p.2, p.3, (p.4.0, p.4.1, answers_join p.4.0 x y p.1 left more rest ts us p.4.2 q))

  pub goes_nowhere : (a : Moment W) → Goes step fixed a a
  goes_nowhere a = record {
    more = [];
    tolds = [];
    read = Consumes-nil a.scene.input.left;
    taken = omega arith;
    answers = (refl, sym (append-nil a.buffer));
    wrote = Appends-nil a.scene.output.written;
    flushed = λ f. no_reply _ f;
  }

  pub goes_on : (a b c : Moment W) → Goes step fixed a b → Goes step fixed b c → Goes step fixed a c
  goes_on a b c p q = record {
    more = p.more ++ q.more;
    tolds = p.tolds ++ q.tolds;
    read = Consumes-trans a.scene.input.left b.scene.input.left c.scene.input.left p.more q.more p.read q.read;
    taken = omega (arith, p.taken, q.taken, length-append p.more q.more);
    answers = subst (λ l. Answers step fixed (stage_of a) l (p.tolds ++ q.tolds) (stage_of c) c.buffer) (append_assoc a.buffer p.more q.more)
        (answers_join (stage_of a) (stage_of b) (stage_of c) (a.buffer ++ p.more) b.buffer q.more c.buffer p.tolds q.tolds p.answers q.answers);
    wrote = subst (Appends a.scene.output.written c.scene.output.written) (sym (replies_join p.tolds q.tolds))
        (Appends-trans a.scene.output.written b.scene.output.written c.scene.output.written (replies p.tolds) (replies q.tolds) p.wrote q.wrote);
    flushed = λ f. q.flushed (flushed_on (IsFlushed a.scene.output) (IsFlushed b.scene.output) p.tolds q.tolds p.flushed f);
  }

  -- reading alone
  pub reading_goes : (w : W) (k : KeeperTold) (i0 i1 : SourceTold) (o : SinkTold) (b0 b1 : List ℕ) (t0 t1 : ℕ)
      → Reads b0 b1 i0.left i1.left t0 t1
      → Goes step fixed (record { scene = scene w k i0 o; buffer = b0; taken = t0 }) (record { scene = scene w k i1 o; buffer = b1; taken = t1 })
  reading_goes w k i0 i1 o b0 b1 t0 t1 r = record {
    more = r.more;
    tolds = [];
    read = r.read;
    taken = r.count;
    answers = (refl, r.grew);
    wrote = Appends-nil o.written;
    flushed = λ f. no_reply _ f;
  }
