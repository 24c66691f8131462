-- One round of asking, and what an agent makes of its reply.
use Rattle.std.proofs.Common.{◌≡◌, ◌⊎◌, ◌≤◌, ◌<◌, ◌+◌, ℕ, inl, inr, length, Option, Some, None, Ok, Err, ap, refl, subst, sym, arith, ◌∙◌}
use Rattle.std.specs.Prelude.{IfOk, MatchOption, OnErr, Result}
use Rattle.std.proofs.lemmas.List.{take_all}
use Rattle.std.specs.Io.KnownBytes.{Appends}
use Rattle.api_types.proofs.ListLemmas.{none_some, some_equal}
use Rattle.net_addr.specs.Words.{Bytes, Text}
use Rattle.keeper_core.specs.Counts.{IsFailure, RoseBy}
use Rattle.keeper_core.specs.Desk.{AreFresh}
use Rattle.keeper_core.specs.Ends.{SinkTold, SourceTold}
use Rattle.keeper_core.specs.declared.refusal.OutsideRefusal.{OutsideRefusal}
use Rattle.keeper_core.specs.declared.refusal.OutsideRefusal.TheVariants.{Failed}
use Rattle.wire_types.specs.declared.step.WireStep.{WireStep}
use Rattle.wire_laws.specs.WireStates.{ask_of}
use Rattle.wire_replies.specs.Requests.{request_bytes}
use Rattle.agent_links.specs.Links.{LinkTold, OpensLink, TakesBackLink}
use Rattle.agent_wire.specs.HostAgents.{HearsBytes, HostAgent}
use Rattle.agent_run.specs.Rounds.{AsksOnce, HasFront, IsAnswered, IsAsked, IsUnanswered, LinkUse, LostLink, NoLink, PassLinks, Round, RunsOnce, WantsOnce, Whole, faults_in, link_use, links_in}
use Rattle.agent_run.proofs.RoundLemmas.{not_opened, opened_once}

-- fewer calls failed at least
pub rose_less : (a b : ℕ) → RoseBy 1 a b → RoseBy 0 a b
rose_less a b rose = omega (arith, rose)

rose_later : (a b : ℕ) → a ≤ b → RoseBy 0 a b
rose_later a b later = omega (arith, later)

some_rose : (a b c d : ℕ) → a ≡ 0 → c ≡ 0 → RoseBy 1 a b ⊎ RoseBy 1 c d → 0 < b + d
some_rose a b c d first second (inl rose) = omega (arith, first, rose)
some_rose a b c d first second (inr rose) = omega (arith, second, rose)

not_some : {X : Type 0} (x : X) (P : Type 0) → Some x ≡ None → P
not_some x P e = cc

module _ {I O : Type 0} (input : I → SourceTold) (output : O → SinkTold) where
  -- the whole request is a front of it
  whole_front : (request : Bytes) (l : LinkUse (I × O)) → Appends (output l.start.1).written (output l.done.1).written request → HasFront input output request l
  whole_front request l wrote = record {
    sent = length request;
    few = omega arith;
    written = subst (λ bytes. Appends (output l.start.1).written (output l.done.1).written bytes) (sym (take_all (length request) request (omega arith))) wrote;
  }

  -- no link was opened
  pub not_asked : (address request : Bytes) (e : OutsideRefusal) (a b : LinkTold (I × O)) → OpensLink {P = I × O} address (Err e) a b → e ≡ Failed → AsksOnce input output request address a b None
  not_asked address request e a b opens fails = record { round = NoLink; is = refl; passes = not_opened address e a b opens 1 (opens.cause.failed (ap Err fails)) }

  pub not_wanting : (address request : Bytes) (e : OutsideRefusal) (a b : LinkTold (I × O)) → OpensLink {P = I × O} address (Err e) a b → WantsOnce input output request address a b
  not_wanting address request e a b opens = record { link = None; front = tt; passes = not_opened address e a b opens 0 (rose_later a.faults b.faults opens.cause.later) }

  -- a link was opened and handed back, and a reply came or none
  pub asked_over : (address request : Bytes) (start done : I × O) (a b c : LinkTold (I × O)) (r : Result (Option Bytes) OutsideRefusal) (o : Option Bytes)
      → OpensLink address (Ok start) a b → TakesBackLink done ((input done.0).faults + (output done.1).faults) b c → r ≡ Ok o
      → IfOk r (λ came. MatchOption came (IsUnanswered input output request (link_use start done)) (λ reply. IsAnswered input output request reply (link_use start done))) → AsksOnce input output request address a c o
  asked_over address request start done a b c r o opens back is ok =
      go o (subst (λ x. IfOk x (λ came. MatchOption came (IsUnanswered input output request (link_use start done)) (λ reply. IsAnswered input output request reply (link_use start done)))) is ok)
    where
      go : (came : Option Bytes) → MatchOption came (IsUnanswered input output request (link_use start done)) (λ reply. IsAnswered input output request reply (link_use start done)) → AsksOnce input output request address a c came
      go None un = record {
        round = LostLink (link_use start done);
        is = (refl, record { front = whole_front request (link_use start done) un.written; cause = inr un });
        passes = opened_once address start done ((input done.0).faults + (output done.1).faults) a b c opens back;
      }
      go (Some reply) an = record {
        round = Whole (link_use start done) reply;
        is = (refl, an);
        passes = opened_once address start done ((input done.0).faults + (output done.1).faults) a b c opens back;
      }

  -- a call of an end failed
  pub failed_over : (address request : Bytes) (start done : I × O) (a b c : LinkTold (I × O)) (r : Result (Option Bytes) OutsideRefusal) (e : OutsideRefusal) (came : Option Bytes)
      → OpensLink address (Ok start) a b → TakesBackLink done ((input done.0).faults + (output done.1).faults) b c → r ≡ Err e → e ≡ Failed → came ≡ None
      → AreFresh (input start.0) (output start.1) → OnErr r (HasFront input output request (link_use start done))
      → (IsFailure r → RoseBy 1 (input start.0).faults (input done.0).faults ⊎ RoseBy 1 (output start.1).faults (output done.1).faults) → AsksOnce input output request address a c came
  failed_over address request start done a b c r e came opens back is fails none fresh err cause = record {
    round = LostLink (link_use start done);
    is = (
      none,
      record {
        front = subst (λ x. OnErr x (HasFront input output request (link_use start done))) is err;
        cause = inl (some_rose (input start.0).faults (input done.0).faults (output start.1).faults (output done.1).faults fresh.input_fresh fresh.output_fresh (cause (is ∙ ap Err fails)));
      },
    );
    passes = opened_once address start done ((input done.0).faults + (output done.1).faults) a b c opens back;
  }

  -- memory ran out over a link
  pub wanting_over : (address request : Bytes) (start done : I × O) (a b c : LinkTold (I × O)) (r : Result (Option Bytes) OutsideRefusal) (e : OutsideRefusal)
      → OpensLink address (Ok start) a b → TakesBackLink done ((input done.0).faults + (output done.1).faults) b c → r ≡ Err e
      → OnErr r (HasFront input output request (link_use start done)) → WantsOnce input output request address a c
  wanting_over address request start done a b c r e opens back is err = record {
    link = Some (link_use start done);
    front = subst (λ x. OnErr x (HasFront input output request (link_use start done))) is err;
    passes = opened_once address start done ((input done.0).faults + (output done.1).faults) a b c opens back;
  }

  -- memory ran out after a round of asking
  pub asked_wanting : (address request : Bytes) (a b : LinkTold (I × O)) (came : Option Bytes) → AsksOnce input output request address a b came → WantsOnce input output request address a b
  asked_wanting address request a b came once = go once.round once.is once.passes
    where
      go : (r : Round (I × O)) → IsAsked input output request r came → PassLinks address (links_in r) (faults_in input output r) a b → WantsOnce input output request address a b
      go NoLink is p = record { link = None; front = tt; passes = record { came = p.came; gone = p.gone; faults = rose_less a.faults b.faults p.faults } }
      go (LostLink l) is p = record { link = Some l; front = is.1.front; passes = p }
      go (Whole l reply) is p = record { link = Some l; front = whole_front request l is.1.written; passes = p }

  -- without a reply the agent is as before
  pub runs_lost : (address : Text) (first : HostAgent) (a b : LinkTold (I × O)) → AsksOnce input output (request_bytes (ask_of first.state)) address a b None → RunsOnce input output address first a b None first
  runs_lost address first a b once = go once.round once.is once.passes
    where
      go : (r : Round (I × O)) → IsAsked input output (request_bytes (ask_of first.state)) r None → PassLinks address (links_in r) (faults_in input output r) a b → RunsOnce input output address first a b None first
      go NoLink is p = record { round = NoLink; is = (refl, refl); passes = p }
      go (LostLink l) is p = record { round = LostLink l; is = (refl, refl, is.1); passes = p }
      go (Whole l reply) is p = none_some reply (RunsOnce input output address first a b None first) is.0

  -- a whole reply is heard
  pub runs_heard : (address : Text) (first last : HostAgent) (a b : LinkTold (I × O)) (reply : Bytes) (said : Option WireStep)
      → AsksOnce input output (request_bytes (ask_of first.state)) address a b (Some reply) → ((s : WireStep) × (said ≡ Some s) × HearsBytes first reply s last) → RunsOnce input output address first a b said last
  runs_heard address first last a b reply said once hears = go once.round once.is once.passes
    where
      go : (r : Round (I × O)) → IsAsked input output (request_bytes (ask_of first.state)) r (Some reply) → PassLinks address (links_in r) (faults_in input output r) a b → RunsOnce input output address first a b said last
      go NoLink is p = not_some reply (RunsOnce input output address first a b said last) is
      go (LostLink l) is p = not_some reply (RunsOnce input output address first a b said last) is.0
      go (Whole l other) is p = record { round = Whole l other; is = (hears.0, hears.1, subst (λ bytes. HearsBytes first bytes hears.0 last) (some_equal reply other is.0) hears.2, is.1); passes = p }

pub on_err : {T E : Type 0} (r : Result T E) (P : Type 0) → P → OnErr r P
on_err (Ok x) P p = tt
on_err (Err e) P p = p
