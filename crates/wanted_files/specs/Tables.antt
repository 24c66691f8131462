-- A table of the file: who is wanted to reach whom, or not to. Its keys are `name`, `from`, `to`,
-- `proto`, `low`, `high` and `want`, and at will `from_address` and `to_address`.
use Rattle.std.specs.Prelude.{List, [], ◌∷◌, Option, Some, None, option_and_then, codes, if◌then◌else◌}
use Rattle.net_addr.specs.Words.{Text}
use Rattle.net_addr.specs.declared.address.Addr.{Addr}
use Rattle.api_types.specs.Ident.{Ident}
use Rattle.json_values.specs.Values.{word_in}
use Rattle.toml.specs.Data.{Members}
use Rattle.wanted_files.specs.Names.{name_in}
use Rattle.wanted_files.specs.Ranges.{range_in}
use Rattle.wanted_files.specs.Values.{address_at, has_only, id_at, text_at}
use Rattle.wanted_files.specs.declared.range.Range.{Range}
use Rattle.wanted_files.specs.declared.table.Between.{Between}
use Rattle.wanted_files.specs.declared.wanted.ReachWant.{ReachWant}
use Rattle.wanted_files.specs.declared.wanted.ReachWant.TheVariants.{Allow, Deny}
use Rattle.wanted_files.specs.declared.wanted.WantedReach.{WantedReach}

-- from which port to which, and the addresses that are named
abbrev pub between_in : Members → Option Between
between_in ms =
    option_and_then
    (λ (from : Ident).
    option_and_then
    (λ (to : Ident).
    option_and_then
    (λ (a : Option Addr).
    option_and_then
    (λ (b : Option Addr).
    Some (record { from = from; to = to; from_address = a; to_address = b }))
    (address_at (codes "to_address") ms))
    (address_at (codes "from_address") ms))
    (id_at (codes "to") ms))
    (id_at (codes "from") ms)

-- what is wanted
abbrev pub want_of : Text → Option ReachWant
want_of = word_in ((codes "allow", Allow) ∷ (codes "deny", Deny) ∷ [])

abbrev pub want_in : Members → Option ReachWant
want_in ms = option_and_then want_of (text_at (codes "want") ms)

abbrev pub table_keys : List Text
table_keys =
    codes "name" ∷ codes "from" ∷ codes "to" ∷ codes "from_address" ∷ codes "to_address"
    ∷ codes "proto" ∷ codes "low" ∷ codes "high" ∷ codes "want" ∷ []

abbrev pub reach_of : Text → Between → Range → ReachWant → WantedReach
reach_of name between range want = record {
  name = name;
  from = between.from;
  to = between.to;
  from_address = between.from_address;
  to_address = between.to_address;
  proto = range.proto;
  low = range.low;
  high = range.high;
  want = want;
}

-- what a table says, which has no other key
abbrev pub reach_in : Members → Option WantedReach
reach_in ms =
    if has_only table_keys ms
    then option_and_then
    (λ (name : Text).
    option_and_then
    (λ (between : Between).
    option_and_then
    (λ (range : Range).
    option_and_then
    (λ (want : ReachWant). Some (reach_of name between range want))
    (want_in ms))
    (range_in ms))
    (between_in ms))
    (name_in ms)
    else None
