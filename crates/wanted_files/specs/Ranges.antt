-- The numbers of which a table speaks: a kind, and the least and the greatest number.
use Rattle.std.specs.Prelude.{ℕ, ◌&&◌, nat_le, nat_lt, Bool, [], ◌∷◌, Option, Some, None, option_and_then, codes, if◌then◌else◌}
use Rattle.net_addr.specs.Words.{Text}
use Rattle.json_values.specs.Values.{word_in}
use Rattle.reach_laws.specs.Numbers.{number_end}
use Rattle.reach_laws.specs.declared.kind.ReachKind.{ReachKind}
use Rattle.reach_laws.specs.declared.kind.ReachKind.TheVariants.{Tcp, Udp, Echo, Other}
use Rattle.toml.specs.Data.{Members}
use Rattle.wanted_files.specs.Values.{number_at, text_at}
use Rattle.wanted_files.specs.declared.range.Range.{Range}

-- the kind that the key `proto` names
abbrev pub kind_in : Text → Option ReachKind
kind_in =
    word_in ((codes "tcp", Tcp) ∷ (codes "udp", Udp) ∷ (codes "echo", Echo) ∷ (codes "other", Other)
    ∷ [])

abbrev pub proto_in : Members → Option ReachKind
proto_in ms = option_and_then kind_in (text_at (codes "proto") ms)

-- the least isn't above the greatest, and that is a number of the kind
abbrev pub is_range : Range → Bool
is_range r = nat_le r.low r.high && nat_lt r.high (number_end r.proto)

abbrev pub range_if_good : Range → Option Range
range_if_good r = if is_range r then Some r else None

-- the range of a table
abbrev pub range_in : Members → Option Range
range_in ms =
    option_and_then
    (λ (proto : ReachKind).
    option_and_then
    (λ (low : ℕ).
    option_and_then
    (λ (high : ℕ). range_if_good (record { proto = proto; low = low; high = high }))
    (number_at (codes "high") ms))
    (number_at (codes "low") ms))
    (proto_in ms)
