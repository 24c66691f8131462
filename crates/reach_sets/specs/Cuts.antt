-- Inner: pieces of numbers that no rule of two ports tells apart, and where they begin.
use Rattle.std.specs.Prelude.{◌≡◌, ℕ, ◌+◌, ◌<◌, ◌&&◌, nat_lt, List, [], ◌∷◌, Option, Some, None, if◌then◌else◌}
use Rattle.api_types.specs.RowLists.{RowLists}
use Rattle.api_types.specs.declared.group.RuleRow.{RuleRow}
use Rattle.api_types.specs.declared.port.PortRow.{PortRow}
use Rattle.plane_types.specs.Ends.{source}
use Rattle.reach_laws.specs.Numbers.{is_left_out, number_end}
use Rattle.reach_laws.specs.Pieces.{AreOnePiece, is_of}
use Rattle.reach_laws.specs.declared.kind.ReachKind.{ReachKind}
use Rattle.reach_laws.specs.declared.kind.ReachKind.TheVariants.{Tcp, Udp, Echo, Other}
use Rattle.reach_sets.specs.TwoPorts.{TwoPorts}

-- a piece begins at the cut: the next one after `at` is the lesser of it and `next`
abbrev pub lower : ℕ → ℕ → ℕ → ℕ
lower at next cut = if nat_lt at cut && nat_lt cut next then cut else next

abbrev pub cut_at : ℕ → ℕ → Option ℕ → ℕ
cut_at at next None = next
cut_at at next (Some cut) = lower at next cut

abbrev pub cut_after : ℕ → ℕ → Option ℕ → ℕ
cut_after at next None = next
cut_after at next (Some last) = lower at next (last + 1)

-- at a number and after it
abbrev pub cut_around : ℕ → ℕ → Option ℕ → ℕ
cut_around at next n = cut_after at (cut_at at next n) n

-- by a rule: at the ends of its range, or around its protocol
abbrev pub cut_by_rule : ReachKind → ℕ → ℕ → RuleRow → ℕ
cut_by_rule Tcp at next r = cut_after at (cut_at at next r.low) r.high
cut_by_rule Udp at next r = cut_after at (cut_at at next r.low) r.high
cut_by_rule Echo at next r = next
cut_by_rule Other at next r = cut_around at next r.protocol

abbrev pub cut_by_rules : ReachKind → PortRow → PortRow → ℕ → ℕ → List RuleRow → ℕ
cut_by_rules kind p q at next [] = next
cut_by_rules kind p q at next (r ∷ rules) =
    cut_by_rules kind p q at (if is_of p q r then cut_by_rule kind at next r else next) rules

-- ICMP, TCP, UDP and ICMPv6 are pieces of their own among other protocols
abbrev pub first_cut : ReachKind → ℕ → ℕ
first_cut Tcp at = number_end Tcp
first_cut Udp at = number_end Udp
first_cut Echo at = number_end Echo
first_cut Other at =
    let one : ℕ = cut_around at (number_end Other) (Some 1) in
    let six : ℕ = cut_around at one (Some 6) in
    let seventeen : ℕ = cut_around at six (Some 17) in
    cut_around at seventeen (Some 58)

abbrev pub next_cut : RowLists → TwoPorts → ReachKind → ℕ → ℕ
next_cut rows x kind at = cut_by_rules kind x.from x.to at (first_cut kind at) rows.rules

-- a number is in the piece of another: both are left out, or neither
pub record IsPiece (rows : RowLists) (x : TwoPorts) (kind : ReachKind) (at d : ℕ) : Type 0 where
  pub number : d < number_end kind
  pub alike : AreOnePiece rows x.from x.to kind at d
  pub left : is_left_out kind (source x.ends) at ≡ is_left_out kind (source x.ends) d
