-- How lines follow one another.
use Rattle.std.proofs.Common.{List, None, Option, Some, [], ap, append-nil, append_assoc, arith, drop, inl, inr, length, length-append, refl, subst, sym, take, true, ℕ, ◌++◌, ◌+◌, ◌∙◌, ◌∷◌, ◌≡◌, ◌≤◌, ◌^◌}
use Rattle.std.specs.Prelude.{flat_map, if◌then◌else◌, nat_le}
use Rattle.std.specs.Io.KnownBytes.{Appends, Consumes}
use Rattle.std.proofs.KnownBytes.{Appends-nil, Appends-trans, Consumes-nil, Consumes-trans}
use Rattle.std.proofs.lemmas.Bool.Decides.{nat_tests}
use Rattle.std.proofs.lemmas.Grind.{flat_map-append}
use Rattle.std.proofs.lemmas.List.{map-append}
use Rattle.api_types.specs.RowLists.{RowLists}
use Rattle.dvr_fabric.specs.Meaning.{hosts_after_events}
use Rattle.dvr_run.proofs.LineLemmas.{all-unbroken, joined-more}
use Rattle.dvr_run.specs.Answers.{IsEnd, IsFront, IsWritten, Stops, reply_line}
use Rattle.dvr_run.specs.Events.{AskFor, event_of, event_of_line}
use Rattle.dvr_run.specs.Lines.{is_unbroken, joined}
use Rattle.dvr_run.specs.Reading.{HasLine, IsNoLine, no_line_status}
use Rattle.dvr_run.specs.Turns.{Follows, Goes, IsAnswered, IsCut, IsTurn, replies_of, reply_if, reply_of}
use Rattle.dvr_run.specs.declared.lines.NoLine.{NoLine}
use Rattle.dvr_run.specs.declared.lines.NoLine.TheVariants.{AtEnd, NoRead, Spent, Unfinished}
use Rattle.dvr_run.specs.declared.status.Status.{Status}
use Rattle.dvr_run.specs.declared.status.Status.TheVariants.{BadLine, BadSettings, Budget, Done, Failed, Inconsistent, OutOfMemory, ReadFault, WriteFault, WrongWords}
use Rattle.dvr_run.specs.declared.turn.Turn.{Turn}
use Rattle.dvr_run.specs.declared.turn.Turn.TheVariants.{Again, Ends}
use Rattle.dvr_types.specs.DvrFabric.{DvrHost, dvr_fate}
use Rattle.dvr_types.specs.DvrVerdicts.{dvr_hosts_after, dvr_meant, dvr_meants}
use Rattle.http_session.specs.Reading.{Reads}
use Rattle.keeper_core.specs.Ends.{SinkTold, SourceTold}
use Rattle.plane_types.specs.declared.event.Event.{Event}

-- ---- events, one more

pub hosts-end : (hosts : List DvrHost) (events : List Event) (e : Event) → hosts_after_events hosts (events ++ e ∷ []) ≡ dvr_hosts_after (hosts_after_events hosts events) e
unfolding hosts_after_events
hosts-end hosts [] e = refl
hosts-end hosts (x ∷ events) e = hosts-end (dvr_hosts_after hosts x) events e

meants-end : (hosts : List DvrHost) (events : List Event) (e : Event) → dvr_meants hosts (events ++ e ∷ []) ≡ dvr_meants hosts events ++ dvr_meant (dvr_fate (hosts_after_events hosts events) e) ∷ []
unfolding dvr_meants hosts_after_events
meants-end hosts [] e = refl
meants-end hosts (x ∷ events) e = ap (λ ms. dvr_meant (dvr_fate hosts x) ∷ ms) (meants-end (dvr_hosts_after hosts x) events e)

replies-end : (start hosts : List DvrHost) (events : List Event) (e : Event) → hosts ≡ hosts_after_events start events → replies_of start (events ++ e ∷ []) ≡ replies_of start events ++ reply_of hosts e
replies-end start hosts events e after =
    ap (flat_map reply_line) (meants-end start events e)
    ∙ flat_map-append reply_line (dvr_meants start events) (dvr_meant (dvr_fate (hosts_after_events start events) e) ∷ [])
    ∙ ap (λ r. replies_of start events ++ r) (append-nil (reply_of (hosts_after_events start events) e))
    ∙ ap (λ hs. replies_of start events ++ reply_of hs e) (sym after)

-- ---- lines, one more

short : (line : List ℕ) → length line ≤ 65536 → nat_le (length line) 65536 ≡ true
short line h = grind (arith, nat_tests, h)

of-line : (rows : RowLists) (line : List ℕ) (o : Option Event) → length line ≤ 65536 → event_of rows line ≡ o → event_of_line rows line ≡ o
of-line rows line o few is = ap (λ t. if t then event_of rows line else None) (short line few) ∙ is

line-short : (bytes : List ℕ) (size : ℕ) → length bytes ≤ 65537 → HasLine bytes size → length (take size bytes) ≤ 65536
line-short bytes size room h = omega (arith, room, ap length h.parts, length-append (take size bytes) (10 ∷ drop (size + 1) bytes))

asks-more : (rows : RowLists) (lines : List (List ℕ)) (events : List Event) (line : List ℕ) (e : Event) → AskFor rows lines events → is_unbroken line ≡ true → event_of_line rows line ≡ Some e → AskFor rows (lines ++ line ∷ []) (events ++ e ∷ [])
asks-more rows lines events line e ask whole is = record {
  unbroken = all-unbroken lines line ask.unbroken whole;
  asked = map-append (event_of_line rows) lines (line ∷ []) ∙ (λ j. ask.asked j ++ is j ∷ []) ∙ sym (map-append Some events (e ∷ []));
}

module _ (rows : RowLists) (start hosts : List DvrHost) (i : SourceTold) (o : SinkTold) (j k : SourceTold) (p : SinkTold)
    (pending now : List ℕ) (taken total : ℕ) (g : Goes rows start hosts pending taken i o j p) (r : Reads pending now j.left k.left taken total) where
  -- the bytes that were read, with the new ones
  all-read : (joined g.lines ++ pending) ++ r.more ≡ joined g.lines ++ now
  all-read = append_assoc (joined g.lines) pending r.more ∙ ap (λ xs. joined g.lines ++ xs) (sym r.grew)

  consumed : Consumes i.left k.left (joined g.lines ++ now)
  consumed = subst (Consumes i.left k.left) all-read (Consumes-trans i.left j.left k.left (joined g.lines ++ pending) r.more g.read r.read)

  counted : total ≡ length (joined g.lines ++ now)
  counted = omega (arith, r.count, g.count, length-append (joined g.lines ++ pending) r.more, ap length all-read)

  -- no line comes
  pub ended : (why : NoLine) → IsNoLine now k total why → total ≤ 2 ^ 40 → Stops rows (replies_of start) (no_line_status why) i o k p
  ended why is within = record {
    lines = g.lines;
    rest = now;
    events = g.events;
    ask = g.ask;
    read = consumed;
    within = subst (λ n. n ≤ 2 ^ 40) counted within;
    wrote = wrote_by why;
    ends = end_by why is;
  }
    where
      wrote_by : (w : NoLine) → IsWritten (no_line_status w) (replies_of start g.events) o p
      wrote_by AtEnd = g.wrote
      wrote_by Unfinished = g.wrote
      wrote_by NoRead = g.wrote
      wrote_by Spent = g.wrote

      end_by : (w : NoLine) → IsNoLine now k total w → IsEnd rows now (length (joined g.lines ++ now)) k (no_line_status w)
      end_by AtEnd e = e
      end_by Unfinished e = inr e
      end_by NoRead e = e
      end_by Spent e = (e.0, sym counted ∙ e.1)

  -- a line comes
  module _ (size : ℕ) (h : HasLine now size) (room : length now ≤ 65537) where
    abbrev line : List ℕ
    line = take size now

    abbrev rest : List ℕ
    rest = drop (size + 1) now

    few : length line ≤ 65536
    few = line-short now size room h

    more-joined : joined g.lines ++ now ≡ joined (g.lines ++ line ∷ []) ++ rest
    more-joined = ap (λ xs. joined g.lines ++ xs) h.parts ∙ sym (joined-more g.lines line rest)

    pub answered : (new : List DvrHost) (q : SinkTold) → IsAnswered rows (take size now) hosts new p q → Goes rows start new (drop (size + 1) now) total i o k q
    answered new q a = record {
      lines = g.lines ++ line ∷ [];
      events = g.events ++ a.event ∷ [];
      ask = asks-more rows g.lines g.events line a.event g.ask h.unbroken (of-line rows line (Some a.event) few a.asked);
      after = a.kept ∙ ap (λ hs. dvr_hosts_after hs a.event) g.after ∙ sym (hosts-end start g.events a.event);
      read = subst (Consumes i.left k.left) more-joined consumed;
      count = counted ∙ ap length more-joined;
      wrote = subst (Appends o.written q.written) (sym (replies-end start hosts g.events a.event g.after)) (Appends-trans o.written p.written q.written (replies_of start g.events) (reply_of hosts a.event) g.wrote a.wrote);
    }

    -- a front of its answer is written after the earlier ones
    front-after : (all reply : List ℕ) (q : SinkTold) → all ≡ replies_of start g.events ++ reply → IsFront reply p q → IsFront all o q
    front-after all reply q is f = (
      replies_of start g.events ++ f.0,
      f.1,
      is ∙ ap (λ xs. replies_of start g.events ++ xs) f.2 ∙ sym (append_assoc (replies_of start g.events) f.0 f.1),
      Appends-trans o.written p.written q.written (replies_of start g.events) f.0 g.wrote f.3,
    )

    -- with a fault, or memory that ran out
    cut-by : (s : Status) (q : SinkTold) (e : Option Event) → event_of rows line ≡ e → IsFront (reply_if hosts e) p q
        → ((events : List Event) → IsFront (replies_of start events) o q → IsWritten s (replies_of start events) o q)
        → ((r : List ℕ) (n : ℕ) → IsEnd rows r n k s) → total ≤ 2 ^ 40 → Stops rows (replies_of start) s i o k q
    cut-by s q None is f written ends within = record {
      lines = g.lines;
      rest = now;
      events = g.events;
      ask = g.ask;
      read = consumed;
      within = subst (λ n. n ≤ 2 ^ 40) counted within;
      wrote = written g.events (front-after (replies_of start g.events) [] q (sym (append-nil (replies_of start g.events))) f);
      ends = ends now (length (joined g.lines ++ now));
    }
    cut-by s q (Some e) is f written ends within = record {
      lines = g.lines ++ line ∷ [];
      rest = rest;
      events = g.events ++ e ∷ [];
      ask = asks-more rows g.lines g.events line e g.ask h.unbroken (of-line rows line (Some e) few is);
      read = subst (Consumes i.left k.left) more-joined consumed;
      within = subst (λ n. n ≤ 2 ^ 40) (counted ∙ ap length more-joined) within;
      wrote = written (g.events ++ e ∷ []) (front-after (replies_of start (g.events ++ e ∷ [])) (reply_of hosts e) q (replies-end start hosts g.events e g.after) f);
      ends = ends rest (length (joined (g.lines ++ line ∷ []) ++ rest));
    }

    pub cut : (s : Status) (q : SinkTold) → IsCut rows (take size now) hosts p q s → total ≤ 2 ^ 40 → Stops rows (replies_of start) s i o k q
    cut BadLine q c within = record {
      lines = g.lines;
      rest = now;
      events = g.events;
      ask = g.ask;
      read = consumed;
      within = subst (λ n. n ≤ 2 ^ 40) counted within;
      wrote = subst (λ (t : SinkTold). Appends o.written t.written (replies_of start g.events)) (sym c.1) g.wrote;
      ends = inl (line, rest, h.parts, h.unbroken, of-line rows line None few c.0);
    }
    cut WriteFault q c within = cut-by WriteFault q (event_of rows line) refl c (λ events f. f) (λ r n. tt) within
    cut OutOfMemory q c within = cut-by OutOfMemory q (event_of rows line) refl c (λ events f. f) (λ r n. tt) within
    cut Done q c within = absurd c
    cut ReadFault q c within = absurd c
    cut Budget q c within = absurd c
    cut WrongWords q c within = absurd c
    cut BadSettings q c within = absurd c
    cut Inconsistent q c within = absurd c
    cut Failed q c within = absurd c

    -- what comes of the line
    pub turned : (turn : Turn) (new : List DvrHost) (q : SinkTold) → IsTurn rows (take size now) hosts new p q turn → total ≤ 2 ^ 40 → Follows rows start new (drop (size + 1) now) total i o k q turn
    turned Again new q is within = answered new q is
    turned (Ends s) new q is within = cut s q is within

-- nothing is read yet
pub nowhere : (rows : RowLists) (start : List DvrHost) (i : SourceTold) (o : SinkTold) → Goes rows start start [] 0 i o i o
unfolding hosts_after_events dvr_meants
nowhere rows start i o = record {
  lines = [];
  events = [];
  ask = record { unbroken = refl; asked = refl };
  after = refl;
  read = Consumes-nil i.left;
  count = refl;
  wrote = Appends-nil o.written;
}
