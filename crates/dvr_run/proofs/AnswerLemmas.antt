-- What comes of a line and of its event.
use Rattle.std.proofs.Common.{List, Option, Some, [], ap, refl, subst, sym, ℕ, ◌∙◌, ◌≡◌}
use Rattle.std.specs.Prelude.{option_and_then}
use Rattle.std.specs.Io.KnownBytes.{Appends}
use Rattle.std.proofs.KnownBytes.{Appends-nil}
use Rattle.api_types.specs.RowLists.{RowLists}
use Rattle.dvr_run.specs.Answers.{IsFront}
use Rattle.dvr_run.specs.Events.{event_of, known_asked, said}
use Rattle.dvr_run.specs.Turns.{IsEventTurn, IsLineSent, IsTurn, reply_if, reply_of}
use Rattle.dvr_run.specs.declared.status.Status.TheVariants.{BadLine, BadSettings, Budget, Done, Failed, Inconsistent, OutOfMemory, ReadFault, WriteFault, WrongWords}
use Rattle.dvr_run.specs.declared.turn.Turn.{Turn}
use Rattle.dvr_run.specs.declared.turn.Turn.TheVariants.{Again, Ends}
use Rattle.dvr_types.specs.DvrFabric.{DvrHost}
use Rattle.dvr_types.specs.DvrVerdicts.{dvr_hosts_after}
use Rattle.keeper_core.specs.Ends.{SinkTold}
use Rattle.neutron_json.specs.Asks.{event_read}
use Rattle.plane_types.specs.declared.ask.Ask.{Ask}
use Rattle.plane_types.specs.declared.ask.LabCall.TheVariants.{Explain}
use Rattle.plane_types.specs.declared.event.Event.{Event}

pub event-turn : (event : Event) (hosts new : List DvrHost) (o p : SinkTold) (line : List ℕ) → line ≡ reply_of hosts event → new ≡ dvr_hosts_after hosts event → (turn : Turn) → IsLineSent line o p turn → IsEventTurn event hosts new o p turn
event-turn event hosts new o p line is kept Again sent = (kept, subst (Appends o.written p.written) is sent)
event-turn event hosts new o p line is kept (Ends WriteFault) sent = subst (λ l. IsFront l o p) is sent
event-turn event hosts new o p line is kept (Ends OutOfMemory) sent = subst (λ l. IsFront l o p) is sent
event-turn event hosts new o p line is kept (Ends Done) sent = absurd sent
event-turn event hosts new o p line is kept (Ends WrongWords) sent = absurd sent
event-turn event hosts new o p line is kept (Ends ReadFault) sent = absurd sent
event-turn event hosts new o p line is kept (Ends BadSettings) sent = absurd sent
event-turn event hosts new o p line is kept (Ends Inconsistent) sent = absurd sent
event-turn event hosts new o p line is kept (Ends Failed) sent = absurd sent
event-turn event hosts new o p line is kept (Ends Budget) sent = absurd sent
event-turn event hosts new o p line is kept (Ends BadLine) sent = absurd sent

pub line-turn : (rows : RowLists) (line : List ℕ) (event : Event) (hosts new : List DvrHost) (o p : SinkTold) → event_of rows line ≡ Some event → (turn : Turn) → IsEventTurn event hosts new o p turn → IsTurn rows line hosts new o p turn
line-turn rows line event hosts new o p asked Again is = record { event = event; asked = asked; kept = is.0; wrote = is.1 }
line-turn rows line event hosts new o p asked (Ends WriteFault) is = subst (λ e. IsFront (reply_if hosts e) o p) (sym asked) is
line-turn rows line event hosts new o p asked (Ends OutOfMemory) is = subst (λ e. IsFront (reply_if hosts e) o p) (sym asked) is
line-turn rows line event hosts new o p asked (Ends Done) is = absurd is
line-turn rows line event hosts new o p asked (Ends WrongWords) is = absurd is
line-turn rows line event hosts new o p asked (Ends ReadFault) is = absurd is
line-turn rows line event hosts new o p asked (Ends BadSettings) is = absurd is
line-turn rows line event hosts new o p asked (Ends Inconsistent) is = absurd is
line-turn rows line event hosts new o p asked (Ends Failed) is = absurd is
line-turn rows line event hosts new o p asked (Ends Budget) is = absurd is
line-turn rows line event hosts new o p asked (Ends BadLine) is = absurd is

-- the event of a line whose body asks for it
pub event-read : (rows : RowLists) (line : List ℕ) (o : Option Ask) (ask : Ask) (event : Event) → o ≡ said (event_read Explain line) → o ≡ Some ask → Some event ≡ known_asked rows ask → event_of rows line ≡ Some event
event-read rows line o ask event read is known = ap (option_and_then (known_asked rows)) (sym read ∙ is) ∙ sym known

-- memory ran out before anything was written
pub none-written : (rows : RowLists) (line : List ℕ) (hosts new : List DvrHost) (o : SinkTold) → IsTurn rows line hosts new o o (Ends OutOfMemory)
none-written rows line hosts new o = ([], reply_if hosts (event_of rows line), refl, Appends-nil o.written)
