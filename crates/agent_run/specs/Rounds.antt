-- Rounds in which an agent asks over a link and hears the reply.
use Rattle.std.specs.Prelude.{◌≡◌, ◌⊎◌, ℕ, ◌+◌, ◌<◌, ◌≤◌, List, [], ◌∷◌, ◌++◌, length, map, take, Option, None, Some, option_map, ⊤}
use Rattle.std.specs.Io.KnownBytes.{Appends}
use Rattle.net_addr.specs.Words.{Bytes, Text}
use Rattle.keeper_core.specs.Counts.{RoseBy}
use Rattle.keeper_core.specs.Ends.{SinkTold, SourceTold}
use Rattle.wire_types.specs.declared.step.WireStep.{WireStep}
use Rattle.wire_laws.specs.WireStates.{ask_of}
use Rattle.wire_replies.specs.Requests.{request_bytes}
use Rattle.agent_links.specs.Links.{EndedLink, LinkTold, ended_link}
use Rattle.agent_links.specs.Wholes.{HasNoWhole, HasWhole}
use Rattle.agent_wire.specs.HostAgents.{HearsBytes, HostAgent}

-- a link: its two ends as they came and as they were handed back
pub record LinkUse (P : Type 0) : Type 0 where
  pub start : P
  pub done : P

abbrev pub link_use : {P : Type 0} → P → P → LinkUse P
link_use start done = record { start = start; done = done }

pub data Round (P : Type 0) : Type 0 where
  -- no link was opened
  NoLink : Round P
  -- no reply was heard
  LostLink : LinkUse P → Round P
  -- this whole reply was heard
  Whole : LinkUse P → Bytes → Round P

-- the links of a round
abbrev pub links_in : {P : Type 0} → Round P → List (LinkUse P)
links_in NoLink = []
links_in (LostLink l) = l ∷ []
links_in (Whole l reply) = l ∷ []

unfoldable pub links_of : {P : Type 0} → List (Round P) → List (LinkUse P)
links_of [] = []
links_of (r ∷ rounds) = links_in r ++ links_of rounds

-- the link of a round in which memory ran out, if one was opened
abbrev pub links_if : {P : Type 0} → Option (LinkUse P) → List (LinkUse P)
links_if None = []
links_if (Some l) = l ∷ []

abbrev pub start_of : {P : Type 0} → LinkUse P → P
start_of l = l.start

abbrev pub ended_at : {P : Type 0} → Text → LinkUse P → EndedLink P
ended_at address l = ended_link address l.done

-- these were the first ones to come, each was opened at this address and handed back, and so many
-- calls failed at least
pub record PassLinks {P : Type 0} (address : Text) (links : List (LinkUse P)) (failed : ℕ)
    (old new : LinkTold P) : Type 0 where
  pub came : old.to_come ≡ option_map (λ rest. map start_of links ++ rest) new.to_come
  pub gone : new.ended ≡ option_map (λ ended. ended ++ map (ended_at address) links) old.ended
  pub faults : RoseBy failed old.faults new.faults

module _ {I O : Type 0} (input : I → SourceTold) (output : O → SinkTold) where
  -- the calls of its ends that failed
  abbrev pub link_faults : LinkUse (I × O) → ℕ
  link_faults l = (input l.done.0).faults + (output l.done.1).faults

  -- a front of the request was written
  pub record HasFront (request : Bytes) (l : LinkUse (I × O)) : Type 0 where
    pub sent : ℕ
    pub few : sent ≤ length request
    pub written : Appends (output l.start.1).written (output l.done.1).written
        (take sent request)

  -- the request was written, and this whole reply was read
  pub record IsAnswered (request reply : Bytes) (l : LinkUse (I × O)) : Type 0 where
    pub written : Appends (output l.start.1).written (output l.done.1).written request
    pub came : HasWhole reply (input l.start.0).left (input l.done.0).left

  -- the request was written, and no whole reply came
  pub record IsUnanswered (request : Bytes) (l : LinkUse (I × O)) : Type 0 where
    pub written : Appends (output l.start.1).written (output l.done.1).written request
    pub none : HasNoWhole (input l.start.0).left (input l.done.0).left

  -- a call of an end failed, or no whole reply came
  pub record IsLostLink (request : Bytes) (l : LinkUse (I × O)) : Type 0 where
    pub front : HasFront request l
    pub cause : (0 < link_faults l) ⊎ IsUnanswered request l

  -- a link was asked for: none was opened, no reply came of it, or this whole reply
  abbrev pub IsAsked : Bytes → Round (I × O) → Option Bytes → Type 0
  IsAsked request NoLink came = came ≡ None
  IsAsked request (LostLink l) came = (came ≡ None) × IsLostLink request l
  IsAsked request (Whole l reply) came = (came ≡ Some reply) × IsAnswered request reply l

  -- the calls that failed in a round
  abbrev pub faults_in : Round (I × O) → ℕ
  faults_in NoLink = 1
  faults_in (LostLink l) = link_faults l
  faults_in (Whole l reply) = link_faults l

  unfoldable pub faults_of : List (Round (I × O)) → ℕ
  faults_of [] = 0
  faults_of (r ∷ rounds) = faults_in r + faults_of rounds

  abbrev pub faults_if : Option (LinkUse (I × O)) → ℕ
  faults_if None = 0
  faults_if (Some l) = link_faults l

  -- what becomes of an agent in a round, and what it says of the reply, if one is heard
  abbrev pub IsRound : HostAgent → Round (I × O) → Option WireStep → HostAgent → Type 0
  IsRound old NoLink said new = (said ≡ None) × (new ≡ old)
  IsRound old (LostLink l) said new =
      (said ≡ None) × (new ≡ old) × IsLostLink (request_bytes (ask_of old.state)) l
  IsRound old (Whole l reply) said new =
      (s : WireStep) × (said ≡ Some s) × HearsBytes old reply s new
      × IsAnswered (request_bytes (ask_of old.state)) reply l

  -- rounds one after the other, and what is said of each reply, in order
  unfoldable pub AreRounds : HostAgent → List (Round (I × O)) → List (Option WireStep) → HostAgent
      → Type 0
  AreRounds old [] said new = (said ≡ []) × (new ≡ old)
  AreRounds old (r ∷ rounds) said new =
      (first : Option WireStep) × (mid : HostAgent) × (rest : List (Option WireStep))
      × (said ≡ first ∷ rest) × IsRound old r first mid × AreRounds mid rounds rest new

  -- memory ran out in a round: before its link was opened, or after it
  abbrev pub IsWanting : Bytes → Option (LinkUse (I × O)) → Type 0
  IsWanting request None = ⊤
  IsWanting request (Some l) = HasFront request l

  -- one round of asking, and what it does to the links
  pub record AsksOnce (request : Bytes) (address : Text) (old new : LinkTold (I × O))
      (came : Option Bytes) : Type 0 where
    pub round : Round (I × O)
    pub is : IsAsked request round came
    pub passes : PassLinks address (links_in round) (faults_in round) old new

  -- one round of an agent, and what it does to the links
  pub record RunsOnce (address : Text) (first : HostAgent) (old new : LinkTold (I × O))
      (said : Option WireStep) (last : HostAgent) : Type 0 where
    pub round : Round (I × O)
    pub is : IsRound first round said last
    pub passes : PassLinks address (links_in round) (faults_in round) old new

  -- memory ran out in a round
  pub record WantsOnce (request : Bytes) (address : Text) (old new : LinkTold (I × O))
      : Type 0 where
    pub link : Option (LinkUse (I × O))
    pub front : IsWanting request link
    pub passes : PassLinks address (links_if link) (faults_if link) old new
