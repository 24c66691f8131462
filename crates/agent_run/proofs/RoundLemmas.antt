-- Rounds, one after the other.
use Rattle.std.proofs.Common.{◌≡◌, ◌∙◌, ◌≤◌, ◌<◌, ◌+◌, ◌-◌, ◌^◌, ◌++◌, ℕ, zero, suc, min, List, [], ◌∷◌, inl, inr, length, map, Option, Some, None, option_map, option_and_then, Ok, Err, ap, sym, subst, refl, arith}
use Rattle.std.proofs.lemmas.List.{append-nil, append_assoc, map-append}
use Rattle.net_addr.specs.Words.{Text}
use Rattle.api_types.specs.Lists.{Each}
use Rattle.keeper_core.specs.Counts.{RoseBy}
use Rattle.keeper_core.specs.Ends.{SinkTold, SourceTold}
use Rattle.wire_types.specs.declared.step.WireStep.{WireStep}
use Rattle.wire_laws.specs.WireStates.{ask_of}
use Rattle.wire_replies.specs.Requests.{request_bytes}
use Rattle.api_types.proofs.ListLemmas.{none_some, some_equal}
use Rattle.keeper_core.specs.declared.refusal.OutsideRefusal.{OutsideRefusal}
use Rattle.agent_links.specs.Links.{ComesLast, EndedLink, LinkTold, OpensLink, TakesBackLink, ended_link}
use Rattle.agent_wire.specs.HostAgents.{HostAgent}
use Rattle.agent_run.specs.Rounds.{AreRounds, IsRound, LinkUse, PassLinks, Round, RunsOnce, WantsOnce, ended_at, faults_if, faults_in, faults_of, link_use, links_if, links_in, links_of, start_of}
use Rattle.agent_run.specs.Runs.{IsGood, RunsRounds, status_by}
use Rattle.agent_run.specs.declared.status.Status.{Status}
use Rattle.agent_run.specs.declared.status.Status.TheVariants.{Done, OutOfMemory}

-- ---- counts of faults

rose_under : (top n m a b c : ℕ) → min (a + n) top ≤ b → min (b + m) top ≤ c → min (a + (n + m)) top ≤ c
rose_under top n m a b c p q = omega (arith, p, q)

rose_on : (n m a b c : ℕ) → RoseBy n a b → RoseBy m b c → RoseBy (n + m) a c
rose_on n m a b c p q = rose_under (2 ^ 64 - 1) n m a b c p q

rose_none : (a : ℕ) → RoseBy 0 a a
rose_none a = omega arith

-- ---- links

module _ {P : Type 0} where
  came_none : (o : Option (List P)) → o ≡ option_map (λ rest. [] ++ rest) o
  came_none None = refl
  came_none (Some xs) = refl

  gone_none : (o : Option (List (EndedLink P))) → o ≡ option_map (λ ended. ended ++ []) o
  gone_none None = refl
  gone_none (Some xs) = ap Some (sym (append-nil xs))

  came_on : (xs ys : List P) (a b c : Option (List P)) → a ≡ option_map (λ rest. xs ++ rest) b → b ≡ option_map (λ rest. ys ++ rest) c → a ≡ option_map (λ rest. (xs ++ ys) ++ rest) c
  came_on xs ys a b None p q = p ∙ ap (option_map (λ rest. xs ++ rest)) q
  came_on xs ys a b (Some rest) p q = p ∙ ap (option_map (λ rest. xs ++ rest)) q ∙ ap Some (sym (append_assoc xs ys rest))

  gone_on : (xs ys : List (EndedLink P)) (a b c : Option (List (EndedLink P))) → b ≡ option_map (λ ended. ended ++ xs) a → c ≡ option_map (λ ended. ended ++ ys) b → c ≡ option_map (λ ended. ended ++ (xs ++ ys)) a
  gone_on xs ys None b c p q = q ∙ ap (option_map (λ ended. ended ++ ys)) p
  gone_on xs ys (Some ended) b c p q = q ∙ ap (option_map (λ ended. ended ++ ys)) p ∙ ap Some (append_assoc ended xs ys)

  pub passes_none : (address : Text) (a : LinkTold P) → PassLinks address [] 0 a a
  passes_none address a = record { came = came_none a.to_come; gone = gone_none a.ended; faults = rose_none a.faults }

  pub passes_on : (address : Text) (xs ys : List (LinkUse P)) (n m : ℕ) (a b c : LinkTold P) → PassLinks address xs n a b → PassLinks address ys m b c → PassLinks address (xs ++ ys) (n + m) a c
  passes_on address xs ys n m a b c p q = record {
    came = subst (λ l. a.to_come ≡ option_map (λ rest. l ++ rest) c.to_come) (sym (map-append start_of xs ys)) (came_on (map start_of xs) (map start_of ys) a.to_come b.to_come c.to_come p.came q.came);
    gone = subst (λ l. c.ended ≡ option_map (λ ended. ended ++ l) a.ended) (sym (map-append (ended_at address) xs ys)) (gone_on (map (ended_at address) xs) (map (ended_at address) ys) a.ended b.ended c.ended p.gone q.gone);
    faults = rose_on n m a.faults b.faults c.faults p.faults q.faults;
  }

  -- a link that wasn't opened
  pub not_opened : (address : Text) (e : OutsideRefusal) (a b : LinkTold P) → OpensLink {P = P} address (Err e) a b → (n : ℕ) → RoseBy n a.faults b.faults → PassLinks address [] n a b
  not_opened address e a b opens n rose = record {
    came = sym opens.comes ∙ came_none b.to_come;
    gone = ap (λ (t : LinkTold P). t.ended) opens.is ∙ gone_none a.ended;
    faults = rose;
  }

  -- one that was opened and handed back
  pub opened_once : (address : Text) (start done : P) (n : ℕ) (a b c : LinkTold P) → OpensLink address (Ok start) a b → TakesBackLink done n b c → PassLinks address (link_use start done ∷ []) n a c
  opened_once address start done n a b c opens back =
      let opened : b.opened ≡ Some address = ap (λ (t : LinkTold P). t.opened) opens.is in
      let last : ComesLast (Some address) done b.ended c.ended = subst (λ o. ComesLast o done b.ended c.ended) opened back.last in
      let counted : c.faults ≡ min (b.faults + n) (2 ^ 64 - 1) = ap (λ (t : LinkTold P). t.faults) back.is in
      let later = opens.cause.later in record {
        came = opens.comes ∙ ap (option_map (λ rest. start ∷ rest)) (sym (ap (λ (t : LinkTold P). t.to_come) back.is));
        gone = last ∙ ap (option_map (λ links. links ++ ended_link address done ∷ [])) (ap (λ (t : LinkTold P). t.ended) opens.is);
        faults = rose_to (2 ^ 64 - 1) n a.faults b.faults c.faults later counted;
      }
    where
      rose_to : (top n a b c : ℕ) → a ≤ b → c ≡ min (b + n) top → min (a + n) top ≤ c
      rose_to top n a b c p q = omega (arith, p, q)

  links_more : (rs : List (Round P)) (r : Round P) → links_of (rs ++ r ∷ []) ≡ links_of rs ++ links_in r
  unfolding links_of
  links_more [] r = append-nil (links_in r)
  links_more (x ∷ rs) r = ap (λ l. links_in x ++ l) (links_more rs r) ∙ sym (append_assoc (links_in x) (links_of rs) (links_in r))

each_more : {X : Type 0} (P : X → Type 0) (xs : List X) (x : X) → Each P xs → P x → Each P (xs ++ x ∷ [])
each_more P [] x all last zero y at = subst P (some_equal x y at) last
each_more P [] x all last (suc k) y at = none_some y (P y) at
each_more P (a ∷ xs) x all last zero y at = all zero y at
each_more P (a ∷ xs) x all last (suc k) y at = each_more P xs x (λ j z here. all (suc j) z here) last k y at

length_more : {X : Type 0} (xs : List X) (x : X) → length (xs ++ x ∷ []) ≡ length xs + 1
length_more [] x = refl
length_more (a ∷ xs) x = let e = length_more xs x in omega (arith, e)

module _ {I O : Type 0} (input : I → SourceTold) (output : O → SinkTold) where
  faults_more : (rs : List (Round (I × O))) (r : Round (I × O)) → faults_of input output (rs ++ r ∷ []) ≡ faults_of input output rs + faults_in input output r
  unfolding faults_of
  faults_more [] r = omega arith
  faults_more (x ∷ rs) r = let e = faults_more rs r in omega (arith, e)

  rounds_more : (rs : List (Round (I × O))) (r : Round (I × O)) (said : List (Option WireStep)) (s : Option WireStep) (a b c : HostAgent)
      → AreRounds input output a rs said b → IsRound input output b r s c → AreRounds input output a (rs ++ r ∷ []) (said ++ s ∷ []) c
  unfolding AreRounds
  rounds_more [] r said s a b c h is = (s, c, [], ap (λ l. l ++ s ∷ []) h.0, subst (λ x. IsRound input output x r s c) h.1 is, (refl, refl))
  rounds_more (x ∷ rs) r said s a b c (first, mid, rest, split, one, more) is = (first, mid, rest ++ s ∷ [], ap (λ l. l ++ s ∷ []) split, one, rounds_more rs r rest s mid b c more is)

  no_rounds : (a : HostAgent) → AreRounds input output a [] [] a
  unfolding AreRounds
  no_rounds a = (refl, refl)

  -- so many rounds were made, and no reply was bad
  pub record SoFar (address : Text) (n : ℕ) (first : HostAgent) (a b : LinkTold (I × O)) (last : HostAgent) : Type 0 where
    pub made : List (Round (I × O))
    pub said : List (Option WireStep)
    pub many : length made ≡ n
    pub are : AreRounds input output first made said last
    pub passes : PassLinks address (links_of made) (faults_of input output made) a b
    pub good : Each IsGood said

  pub none_so_far : (address : Text) (first : HostAgent) (a : LinkTold (I × O)) → SoFar address 0 first a a first
  unfolding links_of faults_of
  none_so_far address first a = record { made = []; said = []; many = refl; are = no_rounds first; passes = passes_none address a; good = λ k r at. none_some r (IsGood r) at }

  -- with one round more
  all_passed : (address : Text) (made : List (Round (I × O))) (r : Round (I × O)) (a b c : LinkTold (I × O)) → PassLinks address (links_of made) (faults_of input output made) a b
      → PassLinks address (links_in r) (faults_in input output r) b c → PassLinks address (links_of (made ++ r ∷ [])) (faults_of input output (made ++ r ∷ [])) a c
  all_passed address made r a b c p q =
      subst (λ n. PassLinks address (links_of (made ++ r ∷ [])) n a c) (sym (faults_more made r))
      (subst (λ l. PassLinks address l (faults_of input output made + faults_in input output r) a c) (sym (links_more made r))
      (passes_on address (links_of made) (links_in r) (faults_of input output made) (faults_in input output r) a b c p q))

  pub more_so_far : (address : Text) (n : ℕ) (first mid last : HostAgent) (a b c : LinkTold (I × O)) (s : Option WireStep) → SoFar address n first a b mid → RunsOnce input output address mid b c s last → IsGood s → SoFar address (n + 1) first a c last
  more_so_far address n first mid last a b c s so once good =
      let many = so.many in record {
        made = so.made ++ once.round ∷ [];
        said = so.said ++ s ∷ [];
        many = length_more so.made once.round ∙ ap (λ k. k + 1) many;
        are = rounds_more so.made once.round so.said s first mid last so.are once.is;
        passes = all_passed address so.made once.round a b c so.passes once.passes;
        good = each_more IsGood so.said s so.good good;
      }

  -- no link more
  with_none : (address : Text) (links : List (LinkUse (I × O))) (n : ℕ) (a b : LinkTold (I × O)) → PassLinks address links n a b → PassLinks address (links ++ []) (n + 0) a b
  with_none address links n a b p =
      let same : n ≡ n + 0 = omega arith in
      subst (λ m. PassLinks address (links ++ []) m a b) same (subst (λ l. PassLinks address l n a b) (sym (append-nil links)) p)

  pub all_made : (address : Text) (n most : ℕ) (first last : HostAgent) (a b : LinkTold (I × O)) → n ≡ most → SoFar address n first a b last → RunsRounds input output Done most address first a b last
  all_made address n most first last a b is so =
      let many = so.many in record {
        made = so.made;
        said = so.said;
        wanting = None;
        few = omega (arith, many, is);
        are = so.are;
        passes = with_none address (links_of so.made) (faults_of input output so.made) a b so.passes;
        over = inl (refl, so.many ∙ is, so.good, refl);
      }

  pub ended_badly : (address : Text) (n most : ℕ) (first mid last : HostAgent) (a b c : LinkTold (I × O)) (s : Option WireStep) (status : Status) → n < most → SoFar address n first a b mid
      → RunsOnce input output address mid b c s last → option_and_then status_by s ≡ Some status → RunsRounds input output status most address first a c last
  ended_badly address n most first mid last a b c None status below so once bad = none_some status _ bad
  ended_badly address n most first mid last a b c (Some s) status below so once bad =
      let many = so.many in
      let longer = length_more so.made once.round in record {
        made = so.made ++ once.round ∷ [];
        said = so.said ++ Some s ∷ [];
        wanting = None;
        few = omega (arith, many, longer, below);
        are = rounds_more so.made once.round so.said (Some s) first mid last so.are once.is;
        passes = with_none address (links_of (so.made ++ once.round ∷ [])) (faults_of input output (so.made ++ once.round ∷ [])) a c (all_passed address so.made once.round a b c so.passes once.passes);
        over = inr (inl (record { earlier = so.said; last = s; are = refl; good = so.good; bad = bad }, refl));
      }

  pub ran_out : (address : Text) (n most : ℕ) (first mid : HostAgent) (a b c : LinkTold (I × O)) → n < most → SoFar address n first a b mid
      → WantsOnce input output (request_bytes (ask_of mid.state)) address b c → RunsRounds input output OutOfMemory most address first a c mid
  ran_out address n most first mid a b c below so wants =
      let many = so.many in
      let one = at_most_one wants.link in record {
        made = so.made;
        said = so.said;
        wanting = wants.link;
        few = omega (arith, many, one, below);
        are = so.are;
        passes = passes_on address (links_of so.made) (links_if wants.link) (faults_of input output so.made) (faults_if input output wants.link) a b c so.passes wants.passes;
        over = inr (inr (refl, so.good, wants.front));
      }
    where
      at_most_one : (o : Option (LinkUse (I × O))) → length (links_if o) ≤ 1
      at_most_one None = omega arith
      at_most_one (Some l) = omega arith

  -- memory ran out before a round was made
  pub none_made : (address : Text) (most : ℕ) (first : HostAgent) (a : LinkTold (I × O)) → RunsRounds input output OutOfMemory most address first a a first
  unfolding links_of faults_of
  none_made address most first a = record {
    made = [];
    said = [];
    wanting = None;
    few = omega arith;
    are = no_rounds first;
    passes = passes_none address a;
    over = inr (inr (refl, λ k r at. none_some r (IsGood r) at, tt));
  }
