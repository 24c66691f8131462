-- What becomes of a table, from the numbers that break it.
use Rattle.std.proofs.Common.{◌≡◌, ℕ, suc, ◌+◌, ◌<◌, ◌≤◌, List, [], ◌∷◌, ◌++◌, Bool, true, false, not, Option, Some, None, refl, ap, sym, ◌∙◌, arith, inr, drop, append_assoc, drop, get_or, length, subst}
use Rattle.std.specs.Prelude.{◌==◌, nat_le, option_map}
use Rattle.std.proofs.lemmas.Bool.Decides.{nat_tests}
use Rattle.std.proofs.Math.Seq.{drop-cons}
use Rattle.std.proofs.lemmas.List.{append-nil, drop_all}
use Rattle.api_types.specs.Consistent.{IsConsistent}
use Rattle.api_types.specs.RowLists.{RowLists}
use Rattle.net_addr.specs.Words.{MacAddress}
use Rattle.plane_types.specs.Ends.{destination, source}
use Rattle.plane_types.specs.Packets.{ip_frame}
use Rattle.plane_types.specs.declared.event.Event.{Event}
use Rattle.plane_types.specs.declared.event.Event.TheVariants.{FromPort}
use Rattle.plane_types.specs.declared.frame.KeyPart.{KeyPart}
use Rattle.reach_laws.proofs.Exact.{decides}
use Rattle.reach_laws.specs.Decides.{Decides}
use Rattle.reach_laws.specs.FirstEvent.{first_mac, first_packet}
use Rattle.reach_laws.specs.Numbers.{number_end, part_by}
use Rattle.reach_laws.specs.declared.kind.ReachKind.{ReachKind}
use Rattle.reach_laws.specs.declared.kind.ReachKind.TheVariants.{Tcp, Udp, Echo, Other}
use Rattle.reach_sets.proofs.PieceLemmas.{number-ends, one-piece}
use Rattle.reach_sets.specs.Breaking.{IsFirstBreak, IsNumberAgainst}
use Rattle.reach_sets.specs.Judged.{AreJudged, Breaks, IsAgainst, IsJudged, IsSource, JudgedBy, is_against, shows, usual_source}
use Rattle.reach_sets.specs.TwoPorts.{AreRows, ReachesBetween, TwoPorts, comes_between, event_between}
use Rattle.reach_sets.specs.declared.judgement.Judgement.{Judgement}
use Rattle.reach_sets.specs.declared.judgement.Judgement.TheVariants.{Broken}
use Rattle.wanted_files.specs.declared.wanted.ReachWant.{ReachWant}
use Rattle.wanted_files.specs.declared.wanted.ReachWant.TheVariants.{Allow, Deny}
use Rattle.wanted_files.specs.declared.wanted.WantedReach.{WantedReach}

-- what decides that something is so decides whether it is against the wish
pub against-decides : (want : ReachWant) (b : Bool) (P : Type 0) → Decides b P → Decides (is_against want b) (IsAgainst want P)
against-decides Deny b P h = h
against-decides Allow true P h = ((λ t. let bad : false ≡ true = t in absurd cc), (λ none. absurd (none (h.0 refl))))
against-decides Allow false P h = ((λ t p. let bad : false ≡ true = h.1 p in absurd cc), (λ none. refl))

module _ (rows : RowLists) (x : TwoPorts) (w : WantedReach) where
  -- no number below breaks the table
  abbrev pub NoneBelow : ℕ → Type 0
  NoneBelow at = (d : ℕ) → w.low ≤ d → d < at → IsNumberAgainst rows x w d → ⊥

  pub none-at-first : NoneBelow w.low
  none-at-first d low less h = absurd (omega (arith, low, less))

  pub none-further : (at next : ℕ) → NoneBelow at → ((d : ℕ) → at ≤ d → d < next → Decides false (IsNumberAgainst rows x w d)) → NoneBelow next
  none-further at next none decides d low less h = go (nat_le at d) refl
    where
      go : (b : Bool) → nat_le at d ≡ b → ⊥
      go true e = let from : at ≤ d = grind (arith, nat_tests) in let bad : false ≡ true = (decides d from less).1 h in absurd cc
      go false e = none d low (grind (arith, nat_tests)) h

  pub breaks-first : (at : ℕ) → w.low ≤ at → at ≤ w.high → NoneBelow at → IsNumberAgainst rows x w at → IsFirstBreak rows x w (Some at)
  breaks-first at low high none against = (record { low = low; high = high; number = against.0; against = against.1 }, (λ d less h. none d h.low less (h.number, h.against)))

  pub breaks-nowhere : (at : ℕ) → NoneBelow at → ((d : ℕ) → d ≤ w.high → d < number_end w.proto → d < at) → IsFirstBreak rows x w None
  breaks-nowhere at none past d h = none d h.low (past d h.high (number-ends rows x w.proto d h.number)) (h.number, h.against)

-- an event that isn't from the number itself shows what is missing

module _ (rows : RowLists) (c : IsConsistent rows) (x : TwoPorts) (are : AreRows rows x) (d : ℕ) where
  shows-missing : (kind : ReachKind) (s : ℕ) → (s == d) ≡ false → d < number_end kind → (ReachesBetween rows x kind d → ⊥) → not (comes_between rows x (part_by kind s d)) ≡ true
  shows-missing kind s apart less none = go (comes_between rows x (part_by kind s d)) refl
    where
      go : (b : Bool) → comes_between rows x (part_by kind s d) ≡ b → not b ≡ true
      go true e = absurd (none ((decides rows c x.from x.to are.from are.to (source x.ends) (destination x.ends) kind s d d apart (one-piece rows x.from x.to kind d less)).0 e))
      go false e = refl

  by-ports : (kind : ReachKind) → d < number_end kind → (ReachesBetween rows x kind d → ⊥) → not (comes_between rows x (part_by kind 40000 d)) ≡ false → (b : Bool) → (40000 == d) ≡ b → not (comes_between rows x (part_by kind 0 d)) ≡ true
  by-ports kind less none h true e = let same : d ≡ 40000 = grind (arith, nat_tests) in let apart : (0 == d) ≡ false = grind (arith, nat_tests, same) in shows-missing kind 0 apart less none
  by-ports kind less none h false e = let bad : false ≡ true = sym h ∙ shows-missing kind 40000 e less none in absurd cc

  -- where the usual source shows nothing, 0 does
  missing-shown : (kind : ReachKind) → d < number_end kind → (ReachesBetween rows x kind d → ⊥) → not (comes_between rows x (part_by kind (usual_source kind) d)) ≡ false → not (comes_between rows x (part_by kind 0 d)) ≡ true
  missing-shown Tcp less none h = by-ports Tcp less none h (40000 == d) refl
  missing-shown Udp less none h = by-ports Udp less none h (40000 == d) refl
  missing-shown Echo less none h = let few : d < 1 = less in let apart : (1 == d) ≡ false = grind (arith, nat_tests, few) in let bad : false ≡ true = sym h ∙ shows-missing Echo 1 apart less none in absurd cc
  missing-shown Other less none h = let apart : (suc d == d) ≡ false = grind (arith, nat_tests) in shows-missing Other (suc d) apart less none

  fits : (kind : ReachKind) → usual_source kind ≤ 65535
  fits Tcp = omega arith
  fits Udp = omega arith
  fits Echo = omega arith
  fits Other = omega arith

  against-shown : (want : ReachWant) (kind : ReachKind) → d < number_end kind → IsAgainst want (ReachesBetween rows x kind d)
      → is_against want (comes_between rows x (part_by kind (usual_source kind) d)) ≡ false → is_against want (comes_between rows x (part_by kind 0 d)) ≡ true
  against-shown Allow kind less none h = missing-shown kind less none h
  against-shown Deny kind less all h = let bad : false ≡ true = sym h ∙ all (usual_source kind) (fits kind) in absurd cc

  pub other-shown : (w : WantedReach) → d < number_end w.proto → Breaks rows x w d → shows rows x w d (usual_source w.proto) ≡ false → shows rows x w d 0 ≡ true
  other-shown w less breaks h = against-shown w.want w.proto less breaks.against h

  pub other-source : (w : WantedReach) → shows rows x w d (usual_source w.proto) ≡ false → IsSource rows x w d 0
  other-source w h = inr (h, (λ t less. absurd (omega (arith, less))))

-- what an event came to shows it, or not
pub shown-by : (rows : RowLists) (x : TwoPorts) (w : WantedReach) (d s : ℕ) (part : KeyPart) (came b : Bool) → part ≡ part_by w.proto s d → came ≡ comes_between rows x part → is_against w.want came ≡ b → shows rows x w d s ≡ b
shown-by rows x w d s part came b part_is came_is is = sym (ap (is_against w.want) (came_is ∙ ap (comes_between rows x) part_is)) ∙ is

-- the event that is shown
no-mac : (rows : RowLists) (x : TwoPorts) (f : MacAddress → Event) (o : Option MacAddress) → option_map f o ≡ None → o ≡ None
no-mac rows x f None h = refl
no-mac rows x f (Some mac) h = cc

pub broken : (rows : RowLists) (x : TwoPorts) (w : WantedReach) (d s : ℕ) (o : Option Event) → IsFirstBreak rows x w (Some d) → IsSource rows x w d s → shows rows x w d s ≡ true → o ≡ event_between rows x (part_by w.proto s d)
    → JudgedBy rows x w (Broken o)
broken rows x w d s (Some e) first from shown is = record { number = d; breaks = first.0; least = first.1; from = s; usual = from; shown = shown; event = sym is }
broken rows x w d s None first from shown is =
    record { number = d; breaks = first.0; none = no-mac rows x (λ (mac : MacAddress). FromPort x.from.id (ip_frame (first_packet x.from (source x.ends) (destination x.ends) (part_by w.proto s d) mac))) (first_mac rows x.from (source x.ends) x.to) (sym is) }

-- table by table: those so far, before those that are left
abbrev pub JudgedSoFar : RowLists → List WantedReach → ℕ → List Judgement → Type 0
JudgedSoFar rows wanted n judged = (rest : List Judgement) → AreJudged rows (drop n wanted) rest → AreJudged rows wanted (judged ++ rest)

pub judged-first : (rows : RowLists) (wanted : List WantedReach) → JudgedSoFar rows wanted 0 []
judged-first rows wanted rest h = h

pub judged-next : (rows : RowLists) (wanted : List WantedReach) (n : ℕ) (w : WantedReach) (judged : List Judgement) (j : Judgement) → n < length wanted → w ≡ get_or wanted n w → JudgedSoFar rows wanted n judged → IsJudged rows w j
    → JudgedSoFar rows wanted (n + 1) (judged ++ j ∷ [])
judged-next rows wanted n w judged j less at so_far is rest h =
    let one : suc n ≡ n + 1 = omega arith in
    let left : drop n wanted ≡ w ∷ drop (n + 1) wanted = drop-cons wanted n w less ∙ ap (λ (v : WantedReach). v ∷ drop (suc n) wanted) (sym at) ∙ ap (λ m. w ∷ drop m wanted) one in
    subst (λ l. AreJudged rows wanted l) (sym (append_assoc judged (j ∷ []) rest)) (so_far (j ∷ rest) (subst (λ l. AreJudged rows l (j ∷ rest)) (sym left) (is, h)))

pub judged-all : (rows : RowLists) (wanted : List WantedReach) (n : ℕ) (judged : List Judgement) → length wanted ≤ n → JudgedSoFar rows wanted n judged → AreJudged rows wanted judged
judged-all rows wanted n judged past so_far = subst (AreJudged rows wanted) (append-nil judged) (so_far [] (subst (λ l. AreJudged rows l []) (sym (drop_all n wanted past)) tt))
