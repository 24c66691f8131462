-- What becomes of a table of a wanted file by the rows: it holds, or it is broken, and then a first
-- event shows why.
use Rattle.std.specs.Prelude.{◌≡◌, ℕ, ◌<◌, ◌≤◌, ◌⊎◌, Bool, true, false, not, List, [], ◌∷◌, Some, None, ⊤}
use Rattle.api_types.specs.RowLists.{RowLists}
use Rattle.plane_types.specs.Ends.{source}
use Rattle.plane_types.specs.declared.event.Event.{Event}
use Rattle.reach_laws.specs.FirstEvent.{first_mac}
use Rattle.reach_laws.specs.Numbers.{is_number, part_by}
use Rattle.reach_laws.specs.declared.kind.ReachKind.{ReachKind}
use Rattle.reach_laws.specs.declared.kind.ReachKind.TheVariants.{Tcp, Udp, Echo, Other}
use Rattle.reach_sets.specs.Named.{named}
use Rattle.reach_sets.specs.TwoPorts.{ReachesBetween, TwoPorts, comes_between, event_between}
use Rattle.reach_sets.specs.declared.judgement.Judgement.{Judgement}
use Rattle.reach_sets.specs.declared.judgement.Judgement.TheVariants.{Broken, Held}
use Rattle.wanted_files.specs.declared.wanted.ReachWant.{ReachWant}
use Rattle.wanted_files.specs.declared.wanted.ReachWant.TheVariants.{Allow, Deny}
use Rattle.wanted_files.specs.declared.wanted.WantedReach.{WantedReach}

-- what is against the wish
abbrev pub IsAgainst : ReachWant → Type 0 → Type 0
IsAgainst Allow P = P → ⊥
IsAgainst Deny P = P

-- a number of the range breaks the table: it doesn't reach though it should, or it does though it
-- shouldn't
pub record Breaks (rows : RowLists) (x : TwoPorts) (w : WantedReach) (d : ℕ) : Type 0 where
  pub low : w.low ≤ d
  pub high : d ≤ w.high
  pub number : is_number w.proto (source x.ends) d ≡ true
  pub against : IsAgainst w.want (ReachesBetween rows x w.proto d)

-- the usual source port of an event is 40000; an echo has the id 1
abbrev pub usual_source : ReachKind → ℕ
usual_source Tcp = 40000
usual_source Udp = 40000
usual_source Echo = 1
usual_source Other = 0

-- the event from a source to a number shows that the table is broken
abbrev pub is_against : ReachWant → Bool → Bool
is_against Allow b = not b
is_against Deny b = b

abbrev pub shows : RowLists → TwoPorts → WantedReach → ℕ → ℕ → Bool
shows rows x w d s = is_against w.want (comes_between rows x (part_by w.proto s d))

-- the source is the usual one, or, where that shows nothing, the least that does
abbrev pub IsSource : RowLists → TwoPorts → WantedReach → ℕ → ℕ → Type 0
IsSource rows x w d s =
    (s ≡ usual_source w.proto)
    ⊎ ((shows rows x w d (usual_source w.proto) ≡ false)
    × ((t : ℕ) → t < s → shows rows x w d t ≡ false))

-- the event is from such a source to the least number that breaks the table, and shows it
pub record ShowsBreak (rows : RowLists) (x : TwoPorts) (w : WantedReach) (e : Event) : Type 0 where
  pub number : ℕ
  pub breaks : Breaks rows x w number
  pub least : (d : ℕ) → d < number → Breaks rows x w d → ⊥
  pub from : ℕ
  pub usual : IsSource rows x w number from
  pub shown : shows rows x w number from ≡ true
  pub event : event_between rows x (part_by w.proto from number) ≡ Some e

-- some number breaks the table, and there is no first event to any number
pub record BreaksWithout (rows : RowLists) (x : TwoPorts) (w : WantedReach) : Type 0 where
  pub number : ℕ
  pub breaks : Breaks rows x w number
  pub none : first_mac rows x.from (source x.ends) x.to ≡ None

abbrev pub JudgedBy : RowLists → TwoPorts → WantedReach → Judgement → Type 0
JudgedBy rows x w Held = (d : ℕ) → Breaks rows x w d → ⊥
JudgedBy rows x w (Broken (Some e)) = ShowsBreak rows x w e
JudgedBy rows x w (Broken None) = BreaksWithout rows x w

-- table by table
abbrev pub IsJudged : RowLists → WantedReach → Judgement → Type 0
IsJudged rows w j = (x : TwoPorts) → named rows w ≡ Some x → JudgedBy rows x w j

abbrev pub AreJudged : RowLists → List WantedReach → List Judgement → Type 0
AreJudged rows [] [] = ⊤
AreJudged rows (w ∷ wanted) (j ∷ judged) = IsJudged rows w j × AreJudged rows wanted judged
AreJudged rows [] (j ∷ judged) = ⊥
AreJudged rows (w ∷ wanted) [] = ⊥
