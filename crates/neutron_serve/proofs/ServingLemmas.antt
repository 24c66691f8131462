-- Connections served one after the other.
use Rattle.std.proofs.Common.{◌≡◌, ◌∙◌, ◌+◌, ◌<◌, ◌≤◌, ◌++◌, ◌∷◌, ℕ, List, [], Option, None, Some, inl, inr, ap, arith, false, length, map, option_map, refl, replicate, suc, zero, subst, sym, true}
use Rattle.std.specs.Prelude.{IfSome, Ok}
use Rattle.std.proofs.lemmas.List.{append-nil, append_assoc}
use Rattle.keeper_core.specs.Counts.{RoseBy}
use Rattle.keeper_core.specs.Desk.{DeskTold, HandsOut, IsNoneOut, IsReturned, Returned, TakesBack, one_out, with_ask}
use Rattle.keeper_core.specs.Ends.{SinkTold, SourceTold}
use Rattle.keeper_core.specs.Kept.{KeeperTold}
use Rattle.keeper_core.specs.declared.ask.DeskAsk.{DeskAsk}
use Rattle.keeper_core.specs.declared.ask.DeskAsk.TheVariants.{Next}
use Rattle.world_laws.specs.World.{World}
use Rattle.http_session.specs.declared.session_end.SessionEnd.{SessionEnd}
use Rattle.neutron_serve.specs.Connections.{AreServed, AreWhole, Carried, AllServed, ComesNext, DeskFailed, IsOver, Listens, NoMemory, NoneLeft, Over, Passes, Served, ServesAll, done_of, handed_back, is_wanting, over_status, start_of}
use Rattle.openings.specs.Openings.{with_asks}
use Rattle.neutron_serve.specs.Status.{is_listening}
use Rattle.neutron_serve.specs.declared.serving.NextConnection.TheVariants as next
use Rattle.neutron_serve.specs.declared.status.Status.{Status}
use Rattle.neutron_serve.specs.declared.status.Status.TheVariants as status
use Rattle.openings.proofs.AskLemmas.{none_after}

same_option : {X : Type 0} (f : X → X) → ((x : X) → x ≡ f x) → (o : Option X) → o ≡ option_map f o
same_option f is None = refl
same_option f is (Some x) = ap Some (is x)

both_maps : {X : Type 0} (f g h : X → X) → ((x : X) → g (f x) ≡ h x) → (o : Option X) → option_map g (option_map f o) ≡ option_map h o
both_maps f g h is None = refl
both_maps f g h is (Some x) = ap Some (is x)

map_both : {X Y : Type 0} (f : X → Y) (xs ys : List X) → map f (xs ++ ys) ≡ map f xs ++ map f ys
map_both f [] ys = refl
map_both f (x ∷ xs) ys = ap (λ l. f x ∷ l) (map_both f xs ys)

asks_both : (n m : ℕ) → replicate n Next ++ replicate m Next ≡ replicate (n + m) Next
asks_both zero m = let e : m ≡ 0 + m = omega arith in ap (λ k. replicate k Next) e
asks_both (suc n) m = let e : suc (n + m) ≡ suc n + m = omega arith in ap (λ l. Next ∷ l) (asks_both n m) ∙ ap (λ k. replicate k Next) e

asks_join : (n m : ℕ) (o : Option (List DeskAsk)) → with_asks (replicate m Next) (with_asks (replicate n Next) o) ≡ with_asks (replicate (n + m) Next) o
asks_join n m o = both_maps (λ asks. asks ++ replicate n Next) (λ asks. asks ++ replicate m Next) (λ asks. asks ++ replicate (n + m) Next)
    (λ asks. append_assoc asks (replicate n Next) (replicate m Next) ∙ ap (λ l. asks ++ l) (asks_both n m)) o

-- a connection by its ends
abbrev pub served_by : {I O : Type 0} → I → O → I → O → SessionEnd → Served (I × O)
served_by input output read written end = record { start = (input, output); done = (read, written); end = end }

module _ {P : Type 0} where
  -- ---- what came and what was handed back

  -- a connection that was counted out is handed back
  taken_back : (old mid new : Option (Returned P)) (p : P) → mid ≡ option_map one_out old → IsReturned mid p new
      → new ≡ option_map (λ (r : Returned P). record r { ended = r.ended ++ p ∷ [] }) old
  taken_back old mid new p is takes = from_old old new (subst (λ m. IsReturned m p new) is takes)
    where
      from_old : (o n : Option (Returned P)) → IsReturned (option_map one_out o) p n → n ≡ option_map (λ (r : Returned P). record r { ended = r.ended ++ p ∷ [] }) o
      from_old None n t = t
      from_old (Some r) None t = absurd (let e = t in omega (arith, e))
      from_old (Some r) (Some n) t = ap Some (t ∙ ap (λ out. record { ended = r.ended ++ p ∷ []; out = out }) (omega arith))

  -- ---- passing

  -- nothing passed
  pub none_passed : (n : ℕ) (old new : DeskTold P) → old.to_come ≡ new.to_come
      → new ≡ record old { asks = with_asks (replicate n Next) old.asks; to_come = new.to_come; faults = new.faults } → Passes [] n old new
  none_passed n old new came is = record {
    came = came ∙ same_option (λ rest. [] ++ rest) (λ rest. refl) new.to_come;
    is = is ∙ ap (λ r. record old { asks = with_asks (replicate n Next) old.asks; to_come = new.to_come; returned = r; faults = new.faults })
        (same_option (handed_back []) (λ (r : Returned P). ap (λ l. record r { ended = l }) (sym (append-nil r.ended))) old.returned);
  }

  pub passes_none : (a : DeskTold P) → Passes [] 0 a a
  passes_none a = none_passed 0 a a refl (ap (λ asks. record a { asks = asks }) (none_after a.asks))

  returned_join : (cs ds : List (Served P)) (o : Option (Returned P)) → option_map (handed_back ds) (option_map (handed_back cs) o) ≡ option_map (handed_back (cs ++ ds)) o
  returned_join cs ds o = both_maps (handed_back cs) (handed_back ds) (handed_back (cs ++ ds))
      (λ (r : Returned P). ap (λ l. record r { ended = l }) (append_assoc r.ended (map done_of cs) (map done_of ds) ∙ ap (λ l. r.ended ++ l) (sym (map_both done_of cs ds)))) o

  -- what passed, and then more
  pub passes_more : (cs ds : List (Served P)) (n m : ℕ) (a b c : DeskTold P) → Passes cs n a b → Passes ds m b c → Passes (cs ++ ds) (n + m) a c
  passes_more cs ds n m a b c p q = record {
    came = p.came ∙ ap (option_map (λ rest. map start_of cs ++ rest)) q.came
        ∙ both_maps (λ rest. map start_of ds ++ rest) (λ rest. map start_of cs ++ rest) (λ rest. map start_of (cs ++ ds) ++ rest)
        (λ rest. sym (append_assoc (map start_of cs) (map start_of ds) rest) ∙ ap (λ l. l ++ rest) (sym (map_both start_of cs ds))) c.to_come;
    is = q.is
        ∙ ap (λ (d : DeskTold P). record d { asks = with_asks (replicate m Next) d.asks; to_come = c.to_come; returned = option_map (handed_back ds) d.returned; faults = c.faults }) p.is
        ∙ (λ j. record a { asks = asks_join n m a.asks j; to_come = c.to_come; returned = returned_join cs ds a.returned j; faults = c.faults });
  }

  -- no connection is out, as before
  pub none_out : (cs : List (Served P)) (n : ℕ) (a b : DeskTold P) → Passes cs n a b → IsNoneOut a → IsNoneOut b
  none_out cs n a b p out = subst (λ r. IfSome r (λ (x : Returned P). x.out ≡ 0)) (sym (ap (λ (d : DeskTold P). d.returned) p.is)) (still a.returned out)
    where
      still : (o : Option (Returned P)) → IfSome o (λ (x : Returned P). x.out ≡ 0) → IfSome (option_map (handed_back cs) o) (λ (x : Returned P). x.out ≡ 0)
      still None h = h
      still (Some r) h = h

  -- a connection came, was served and handed back
  pub one_passed : (c : Served P) (old mid new : DeskTold P) → HandsOut (Ok (Some c.start)) old mid → TakesBack c.done mid new → Passes (c ∷ []) 1 old new
  one_passed c old mid new out back = record {
    came = out.comes ∙ ap (option_map (λ rest. c.start ∷ rest)) (sym (ap (λ (d : DeskTold P). d.to_come) back.is));
    is = back.is
        ∙ ap (λ (d : DeskTold P). record d { returned = new.returned }) out.asks.is
        ∙ (λ j. record old {
          asks = with_ask Next old.asks;
          to_come = sym (ap (λ (d : DeskTold P). d.to_come) back.is) j;
          returned = taken_back old.returned mid.returned new.returned c.done (ap (λ (d : DeskTold P). d.returned) out.asks.is) back.returned j;
          faults = sym (ap (λ (d : DeskTold P). d.faults) back.is) j;
        });
  }

  -- none is left
  pub none_came : (old new : DeskTold P) → HandsOut (Ok None) old new → Passes [] 1 old new
  none_came old new out = none_passed 1 old new (sym out.comes.0) out.asks.is

  pub whole_more : (cs : List (Served P)) (c : Served P) → AreWhole cs → is_wanting c.end ≡ false → AreWhole (cs ++ c ∷ [])
  whole_more [] c p q = (q, tt)
  whole_more (d ∷ cs) c p q = (p.0, whole_more cs c p.1 q)

  pub length_more : (cs : List (Served P)) (c : Served P) → length (cs ++ c ∷ []) ≡ length cs + 1
  length_more [] c = refl
  length_more (d ∷ cs) c = let e = length_more cs c in omega (arith, e)

module _ {I O : Type 0} (input : I → SourceTold) (output : O → SinkTold) where
  -- ---- served

  served_more : (cs ds : List (Served (I × O))) (u : World) (f : KeeperTold) (v : World) (g : KeeperTold) (w : World) (h : KeeperTold)
      → AreServed input output cs u f v g → AreServed input output ds v g w h → AreServed input output (cs ++ ds) u f w h
  served_more [] ds u f v g w h p q = subst (λ n. AreServed input output ds u n w h) p.1 (subst (λ x. AreServed input output ds x g w h) p.0 q)
  served_more (c ∷ cs) ds u f v g w h p q = (p.0, p.1, p.2, served_more cs ds p.0 p.1 v g w h p.3 q)

  -- ---- so far

  -- so many connections were served, and none of their sessions ended because memory ran out
  pub record SoFar (n : ℕ) (a b : Carried (I × O)) : Type 0 where
    pub served : List (Served (I × O))
    pub many : length served ≡ n
    pub are : AreServed input output served a.world a.store b.world b.store
    pub passes : Passes served n a.desk b.desk
    pub whole : AreWhole served

  pub none_so_far : (a : Carried (I × O)) → SoFar 0 a a
  none_so_far a = record { served = []; many = refl; are = (refl, refl); passes = passes_none a.desk; whole = tt }

  -- one connection more
  record OneMore (n : ℕ) (a : Carried (I × O)) (end : SessionEnd) (c : Carried (I × O)) : Type 0 where
    pub served : List (Served (I × O))
    pub many : length served ≡ n + 1
    pub are : AreServed input output served a.world a.store c.world c.store
    pub passes : Passes served (n + 1) a.desk c.desk
    pub whole : is_wanting end ≡ false → AreWhole served

  one_more : (n : ℕ) (a b c : Carried (I × O)) (end : SessionEnd) → SoFar n a b → ComesNext input output (next.Served end) b c → OneMore n a end c
  one_more n a b c end s t = record {
    served = s.served ++ t.0 ∷ [];
    many = length_more s.served t.0 ∙ ap (λ k. k + 1) s.many;
    are = served_more s.served (t.0 ∷ []) a.world a.store b.world b.store c.world c.store s.are (c.world, c.store, t.2, (refl, refl));
    passes = passes_more s.served (t.0 ∷ []) n 1 a.desk b.desk c.desk s.passes t.3;
    whole = λ enough. whole_more s.served t.0 s.whole (ap is_wanting t.1 ∙ enough);
  }

  pub more_so_far : (n : ℕ) (a b c : Carried (I × O)) (end : SessionEnd) → SoFar n a b → ComesNext input output (next.Served end) b c → is_wanting end ≡ false → SoFar (n + 1) a c
  more_so_far n a b c end s t enough =
      let m = one_more n a b c end s t in record { served = m.served; many = m.many; are = m.are; passes = m.passes; whole = m.whole enough }

  -- as many as there may be
  pub all_served : (n most : ℕ) (a b : Carried (I × O)) → n ≡ most → SoFar n a b → ServesAll input output most status.Done a b
  all_served n most a b is s =
      record { served = s.served; asked = n; few = let e = s.many in omega (arith, e, is); are = s.are; passes = s.passes; over = AllServed; status_is = refl; cause = (s.many ∙ is, is, s.whole) }

  -- a session ended because memory ran out
  pub served_and_ended : (n most : ℕ) (a b c : Carried (I × O)) (end : SessionEnd) → n < most → SoFar n a b → ComesNext input output (next.Served end) b c → ServesAll input output most status.OutOfMemory a c
  served_and_ended n most a b c end less s t =
      let m = one_more n a b c end s t in
      let e = m.many in
      record { served = m.served; asked = n + 1; few = omega (arith, e, less); are = m.are; passes = m.passes; over = NoMemory; status_is = refl; cause = sym e }

  -- nothing more was served
  unserved : (n k : ℕ) (a b c : Carried (I × O)) (s : SoFar n a b) → c.world ≡ b.world → c.store ≡ b.store → Passes {P = I × O} [] k b.desk c.desk
      → AreServed input output s.served a.world a.store c.world c.store × Passes s.served (n + k) a.desk c.desk
  unserved n k a b c s world store passes = (
    subst (λ x. AreServed input output s.served a.world a.store x c.store) (sym world) (subst (λ x. AreServed input output s.served a.world a.store b.world x) (sym store) s.are),
    subst (λ l. Passes l (n + k) a.desk c.desk) (append-nil s.served) (passes_more s.served [] n k a.desk b.desk c.desk s.passes passes),
  )

  pub none_left : (n most : ℕ) (a b c : Carried (I × O)) → n < most → SoFar n a b → ComesNext input output next.NoneLeft b c → ServesAll input output most status.Done a c
  none_left n most a b c less s t =
      let un = unserved n 1 a b c s t.0 t.1 t.2 in
      let e = s.many in
      record { served = s.served; asked = n + 1; few = omega (arith, e, less); are = un.0; passes = un.1; over = NoneLeft; status_is = refl; cause = (t.3, ap (λ k. k + 1) (sym e), s.whole) }

  pub desk_failed : (n most : ℕ) (a b c : Carried (I × O)) → n < most → a.desk.faults ≤ b.desk.faults → SoFar n a b → ComesNext input output next.Failed b c → ServesAll input output most status.Failed a c
  desk_failed n most a b c less le s t =
      let un = unserved n 1 a b c s t.0 t.1 t.2 in
      let e = s.many in
      let rose = t.3 in
      record { served = s.served; asked = n + 1; few = omega (arith, e, less); are = un.0; passes = un.1; over = DeskFailed; status_is = refl; cause = (omega (arith, rose, le), ap (λ k. k + 1) (sym e), s.whole) }

  pub no_memory : (n most : ℕ) (a b c : Carried (I × O)) → n < most → SoFar n a b → ComesNext input output next.OutOfMemory b c → ServesAll input output most status.OutOfMemory a c
  no_memory n most a b c less s t =
      let un = unserved n 0 a b c s t.0 t.1 t.2 in
      let e = s.many in
      record { served = s.served; asked = n + 0; few = omega (arith, e, less); are = un.0; passes = un.1; over = NoMemory; status_is = refl; cause = omega (arith, e) }

  -- ---- listening

  over_serving : (over : Over) → is_listening (over_status over) ≡ true
  over_serving AllServed = refl
  over_serving NoneLeft = refl
  over_serving DeskFailed = refl
  over_serving NoMemory = refl

  -- it fails only if the desk's count rose
  over_rose : (over : Over) (most : ℕ) (cs : List (Served (I × O))) (asked : ℕ) (a b : DeskTold (I × O)) → IsOver over most cs asked a b → over_status over ≡ status.Failed → RoseBy 1 a.faults b.faults
  over_rose AllServed most cs asked a b cause e = absurd cc
  over_rose NoneLeft most cs asked a b cause e = absurd cc
  over_rose DeskFailed most cs asked a b cause e = cause.0
  over_rose NoMemory most cs asked a b cause e = absurd cc

  rose_earlier : (a b c : ℕ) → a ≤ b → RoseBy 1 b c → RoseBy 1 a c
  rose_earlier a b c le rose = omega (arith, le, rose)

  not_wanting : status.OutOfMemory ≡ status.Failed → ⊥
  not_wanting e = absurd cc

  -- the stores are as they were
  pub listened_stores : (address : List ℕ) (most : ℕ) (s : Status) (a b : Carried (I × O)) → Listens input output address most s a b → b.desk.stores ≡ a.desk.stores
  listened_stores address most s a b (inl l) = ap (λ (d : DeskTold (I × O)). d.stores) l.serves.passes.is
  listened_stores address most s a b (inr (inl l)) = ap (λ (c : Carried (I × O)). c.desk.stores) l.is
  listened_stores address most s a b (inr (inr l)) = ap (λ (c : Carried (I × O)). c.desk.stores) l.is

  pub listened_serving : (address : List ℕ) (most : ℕ) (s : Status) (a b : Carried (I × O)) → Listens input output address most s a b → is_listening s ≡ true
  listened_serving address most s a b (inl l) = ap is_listening l.serves.status_is ∙ over_serving l.serves.over
  listened_serving address most s a b (inr (inl l)) = ap is_listening l.status_is
  listened_serving address most s a b (inr (inr l)) = ap is_listening l.status_is

  pub listened_rose : (address : List ℕ) (most : ℕ) (s : Status) (a b : Carried (I × O)) → Listens input output address most s a b → s ≡ status.Failed → RoseBy 1 a.desk.faults b.desk.faults
  listened_rose address most s a b (inl l) e =
      rose_earlier a.desk.faults l.faults b.desk.faults l.later (over_rose l.serves.over most l.serves.served l.serves.asked _ _ l.serves.cause (sym l.serves.status_is ∙ e))
  listened_rose address most s a b (inr (inl l)) e = l.rose
  listened_rose address most s a b (inr (inr l)) e = absurd (not_wanting (sym l.status_is ∙ e))
