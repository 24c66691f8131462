-- One turn, by what was waited for and what came of the reply.
use Rattle.std.proofs.Common.{[], ◌∷◌, ◌≡◌, ℕ, ◌+◌, ◌-◌, ◌≤◌, ◌<◌, List, length, drop, take, refl, sym, ap, subst, ◌∙◌, arith, length-append, length-drop, append-nil, true, inl, inr, true≢false}
use Rattle.std.proofs.lemmas.List.{take-append-drop}
use Rattle.std.specs.Io.KnownBytes.{Appends}
use Rattle.http_heads.specs.Heads.{Asked, Takes}
use Rattle.keeper_core.specs.Ends.{SinkTold, SourceTold}
use Rattle.keeper_core.specs.Kept.{KeeperTold}
use Rattle.http_session.specs.Told.{Told, told_bytes, Fixed, IsStep, stage}
use Rattle.http_session.specs.Reading.{Reads, IsStop, IsFound}
use Rattle.http_session.specs.declared.bad_bytes.BadBytes.{BadBytes}
use Rattle.http_session.specs.declared.reading.Stop.TheVariants.{AtEnd, NoRead, Spent}
use Rattle.http_session.specs.Requests.{IsRequest}
use Rattle.http_session.specs.declared.request.Request.{Request}
use Rattle.http_session.specs.Serves.{IsRefused, Moment, Goes, Last, LastRequest, LastRefusal, EndsShort, ServesFrom, scene}
use Rattle.http_session.specs.declared.session_end.SessionEnd.{SessionEnd}
use Rattle.http_session.specs.declared.session_end.SessionEnd.TheVariants.{Done, ReadFault, WriteFault, Budget, OutOfMemory}
use Rattle.http_session.specs.declared.turn.Turn.{Turn}
use Rattle.http_session.specs.declared.turn.Turn.TheVariants.{Again, Ends}
use Rattle.http_session.specs.Turns.{Short, IsSent, IsAnswered, IsTurn}
use Rattle.http_session.proofs.Going.{reading_goes, goes_on}

-- a front of the reply
pub short_of : (old new : SinkTold) (reply : List ℕ) → new.flushed ≡ old.flushed
    → ((n : ℕ) × (n ≤ length reply) × Appends old.written new.written (take n reply)) → Short old new reply
short_of old new reply same h = record { front = take h.0 reply; back = drop h.0 reply; parts = sym (take-append-drop h.0 reply); wrote = h.2; flushed_stays = same }

module _ {W : Type 0} (step : W → Asked → List ℕ → W → Type 0) (fixed : Fixed W) (limit : ℕ)
    (w w1 : W) (k0 k1 : KeeperTold) (i0 i1 : SourceTold) (o0 o1 : SinkTold) (b0 b1 : List ℕ) (t0 t1 : ℕ) (reads : Reads b0 b1 i0.left i1.left t0 t1) where
  less : (end : ℕ) → t1 ≤ limit → 0 < end → end ≤ length b1 → (limit - t1) + length (drop end b1) < (limit - t0) + length b0
  less end within some fits = omega (arith, length-drop end b1, reads.count, ap length reads.grew, length-append b0 reads.more)

  -- before the turn, and after its reading
  abbrev pub first : Moment W
  first = record { scene = scene w k0 i0 o0; buffer = b0; taken = t0 }

  abbrev pub ready : Moment W
  ready = record { scene = scene w k0 i1 o0; buffer = b1; taken = t1 }

  abbrev pub answered : ℕ → Moment W
  answered end = record { scene = scene w1 k1 i1 o1; buffer = drop end b1; taken = t1 }

  abbrev pub refused : Moment W
  refused = record { scene = scene w k0 i1 o1; buffer = b1; taken = t1 }

  read_on : Goes step fixed first ready
  read_on = reading_goes step fixed w k0 i0 i1 o0 b0 b1 t0 t1 reads

  short_end : (asked : Asked) (end : ℕ) → Takes b1 asked (drop end b1) → (told : Told) → IsStep step fixed asked told (stage w k0.faults) (stage w1 k1.faults) → Short o0 o1 (told_bytes told)
      → (last : Last) × EndsShort step fixed limit ready (answered end) last
  short_end asked end takes told steps s = (
    LastRequest asked told,
    (
      s.front,
      s.back,
      s.parts,
      record {
        is = ((drop end b1, takes), steps);
        wrote = s.wrote;
        input = refl;
        taken = refl;
      },
      s.flushed_stays,
    ),
  )

  -- a request is found and answered
  pub found_turn : (turn : Turn) (request : Request) → t1 ≤ limit → IsFound b1 request
      → ((asked : Asked) (rest : List ℕ) → Takes b1 asked rest → IsRequest b1 request asked → IsAnswered step fixed asked (stage w k0.faults) (stage w1 k1.faults) o0 o1 request.close turn)
      → IsTurn step fixed limit first (answered request.body.end) turn
  found_turn Again request within found answer =
      let end = request.body.end in
      let takes = found.2.1 in
      let a = answer found.2.0 (drop end b1) takes found.2.2 in (
        record {
          more = reads.more;
          tolds = a.told ∷ [];
          read = reads.read;
          taken = reads.count;
          answers = (found.2.0, drop end b1, subst (λ l. Takes l found.2.0 (drop end b1)) reads.grew takes, sym found.2.2.close ∙ a.sent.1, (stage w1 k1.faults, a.steps, (refl, refl)));
          wrote = subst (Appends o0.written o1.written) (sym (append-nil (told_bytes a.told))) a.sent.0.wrote;
          flushed = λ f. a.sent.0.flushed_all;
        },
        less end within found.1 found.0,
      )
  found_turn (Ends Done) request within found answer =
      let a = answer found.2.0 (drop request.body.end b1) found.2.1 found.2.2 in (
        ready,
        read_on,
        inr (
          LastRequest found.2.0 a.told,
          (
            record {
              is = ((drop request.body.end b1, found.2.1), a.steps);
              wrote = a.sent.0.wrote;
              input = refl;
              taken = refl;
            },
            sym found.2.2.close ∙ a.sent.1,
            a.sent.0.flushed_all,
          ),
        ),
      )
  found_turn (Ends WriteFault) request within found answer =
      let a = answer found.2.0 (drop request.body.end b1) found.2.1 found.2.2 in
      (ready, read_on, short_end found.2.0 request.body.end found.2.1 a.told a.steps a.sent)
  found_turn (Ends OutOfMemory) request within found answer =
      let a = answer found.2.0 (drop request.body.end b1) found.2.1 found.2.2 in
      (ready, read_on, short_end found.2.0 request.body.end found.2.1 a.told a.steps a.sent)
  found_turn (Ends ReadFault) request within found answer =
      absurd ((answer found.2.0 (drop request.body.end b1) found.2.1 found.2.2).sent)
  found_turn (Ends Budget) request within found answer =
      absurd ((answer found.2.0 (drop request.body.end b1) found.2.1 found.2.2).sent)

  short_refusal : (bad : BadBytes) → IsRefused limit b1 i1 t1 bad → Short o0 o1 (fixed.refusal bad) → (last : Last) × EndsShort step fixed limit ready refused last
  short_refusal bad is s = (
    LastRefusal bad,
    (
      s.front,
      s.back,
      s.parts,
      record {
        is = (is, refl);
        wrote = s.wrote;
        input = refl;
        taken = refl;
      },
      s.flushed_stays,
    ),
  )

  -- the bytes are refused, and the world stays
  pub bad_turn : (turn : Turn) (bad : BadBytes) → IsRefused limit b1 i1 t1 bad → IsSent o0 o1 (fixed.refusal bad) true turn → IsTurn step fixed limit first refused turn
  bad_turn Again bad is sent = absurd (true≢false sent.1)
  bad_turn (Ends Done) bad is sent = (
    ready,
    read_on,
    inr (
      LastRefusal bad,
      (
        record {
          is = (is, refl);
          wrote = sent.0.wrote;
          input = refl;
          taken = refl;
        },
        refl,
        sent.0.flushed_all,
      ),
    ),
  )
  bad_turn (Ends WriteFault) bad is sent = (ready, read_on, short_refusal bad is sent)
  bad_turn (Ends OutOfMemory) bad is sent = (ready, read_on, short_refusal bad is sent)
  bad_turn (Ends ReadFault) bad is sent = absurd sent
  bad_turn (Ends Budget) bad is sent = absurd sent

  pub quiet_turn : IsStop limit b1 i1 t1 AtEnd → IsTurn step fixed limit first ready (Ends Done)
  quiet_turn h = (ready, read_on, inl (refl, h.0, h.1, h.2))

  pub fault_turn : IsStop limit b1 i1 t1 NoRead → IsTurn step fixed limit first ready (Ends ReadFault)
  fault_turn h = (ready, read_on, (refl, h.0, h.1))

  pub spent_turn : IsStop limit b1 i1 t1 Spent → IsTurn step fixed limit first ready (Ends Budget)
  spent_turn h = (ready, read_on, (refl, h.0, h.1))

module _ {W : Type 0} (step : W → Asked → List ℕ → W → Type 0) (fixed : Fixed W) (limit : ℕ) where
  -- a session so far, and then a turn that ends it
  pub last_turn : (a b z : Moment W) (end : SessionEnd) → Goes step fixed a b → IsTurn step fixed limit b z (Ends end) → ServesFrom step fixed limit a z end
  last_turn a b z end so turn = inl (turn.0, goes_on step fixed a b turn.0 so turn.1, turn.2)

  -- and where the turn's limit is known to be the session's
  pub last_turn_within : (n : ℕ) (a b z : Moment W) (end : SessionEnd) → n ≡ limit → Goes step fixed a b → IsTurn step fixed n b z (Ends end) → ServesFrom step fixed limit a z end
  last_turn_within n a b z end same so turn = last_turn a b z end so (subst (λ k. IsTurn step fixed k b z (Ends end)) same turn)

  -- no memory for the buffer
  pub no_turn : (a : Moment W) → ServesFrom step fixed limit a a OutOfMemory
  no_turn a = inr (refl, refl)
