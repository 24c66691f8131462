-- The exact sets of numbers by which one port reaches another.
use Rattle.std.specs.Prelude.{ℕ, List}
use Rattle.api_types.specs.RowLists.{RowLists}
use Rattle.reach_laws.specs.Decides.{Decides}
use Rattle.reach_laws.specs.declared.kind.ReachKind.TheVariants.{Tcp, Udp, Echo, Other}
use Rattle.reach_sets.specs.Spans.{AreApart, in_spans}
use Rattle.reach_sets.specs.TwoPorts.{IsReachedBetween, TwoPorts}
use Rattle.reach_sets.specs.declared.reach_set.ReachSet.{ReachSet}
use Rattle.reach_sets.specs.declared.spans.Span.{Span}

-- a number is in a span exactly if it is so
pub record AreSpansOf (P : ℕ → Type 0) (spans : List Span) : Type 0 where
  pub exact : (d : ℕ) → Decides (in_spans d spans) (P d)
  pub apart : AreApart spans

pub record IsReachSet (rows : RowLists) (x : TwoPorts) (set : ReachSet) : Type 0 where
  pub tcp : AreSpansOf (IsReachedBetween rows x Tcp) set.tcp
  pub udp : AreSpansOf (IsReachedBetween rows x Udp) set.udp
  pub echo : Decides set.echo (IsReachedBetween rows x Echo 0)
  pub other : AreSpansOf (IsReachedBetween rows x Other) set.other
