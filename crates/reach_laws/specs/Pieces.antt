-- Numbers that no rule of two ports tells apart (Networking API reference, security group rules).
use Rattle.std.specs.Prelude.{◌≡◌, ℕ, ◌&&◌, ◌||◌, Bool, true, List, [], ◌∷◌, Option, ⊤}
use Rattle.api_types.specs.Members.{names_group}
use Rattle.api_types.specs.RowLists.{RowLists}
use Rattle.api_types.specs.declared.group.RuleRow.{RuleRow}
use Rattle.api_types.specs.declared.port.PortRow.{PortRow}
use Rattle.plane_types.specs.Filter.{at_least, at_most, has_type, same_or_none}
use Rattle.reach_laws.specs.declared.kind.ReachKind.{ReachKind}
use Rattle.reach_laws.specs.declared.kind.ReachKind.TheVariants.{Tcp as TcpReach, Udp as UdpReach, Echo as EchoReach, Other as OtherReach}

-- a number is in a range, of which a null end doesn't bound
abbrev pub is_within : Option ℕ → Option ℕ → ℕ → Bool
is_within low high d = at_least low d && at_most high d

-- the rule is of a group that one of the ports names
abbrev pub is_of : PortRow → PortRow → RuleRow → Bool
is_of p q r = names_group r.group p.groups || names_group r.group q.groups

-- such a rule has both numbers in its range, or neither
abbrev pub TellsNot : PortRow → PortRow → ℕ → ℕ → RuleRow → Type 0
TellsNot p q d e r = is_of p q r ≡ true → is_within r.low r.high d ≡ is_within r.low r.high e

-- such a rule is for both protocols, or for neither
abbrev pub NamesAlike : PortRow → PortRow → ℕ → ℕ → RuleRow → Type 0
NamesAlike p q d e r = is_of p q r ≡ true → same_or_none r.protocol d ≡ same_or_none r.protocol e

-- so it is with each of these rules
abbrev pub AreAlike : PortRow → PortRow → ℕ → ℕ → List RuleRow → Type 0
AreAlike p q d e [] = ⊤
AreAlike p q d e (r ∷ rules) = TellsNot p q d e r × AreAlike p q d e rules

abbrev pub AreNamedAlike : PortRow → PortRow → ℕ → ℕ → List RuleRow → Type 0
AreNamedAlike p q d e [] = ⊤
AreNamedAlike p q d e (r ∷ rules) = NamesAlike p q d e r × AreNamedAlike p q d e rules

-- two ports of TCP or UDP, or two protocols, in one piece; of protocols both or neither have types
-- and codes; an echo has one number
abbrev pub AreOnePiece : RowLists → PortRow → PortRow → ReachKind → ℕ → ℕ → Type 0
AreOnePiece rows p q TcpReach d e = AreAlike p q d e rows.rules
AreOnePiece rows p q UdpReach d e = AreAlike p q d e rows.rules
AreOnePiece rows p q EchoReach d e = (d ≡ 0) × (e ≡ 0)
AreOnePiece rows p q OtherReach d e =
    (has_type d ≡ has_type e) × AreNamedAlike p q d e rows.rules
