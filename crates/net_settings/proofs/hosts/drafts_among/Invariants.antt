use Rattle.std.proofs.Common.{◌≡◌, true, take, map, is_some, unwrap_or}
use Rattle.std.specs.List.{list_all}
use Rattle.toml.specs.Data.{no_members, as_table}
use Rattle.toml.specs.View.{view}
use Rattle.net_settings.specs.Hosts.{draft_of}
use Rattle.net_settings.proofs.hosts.drafts_among.Given as goal

abbrev pub invariant-loop-item : goal.invariant-loop-item
invariant-loop-item l = record {
  all : list_all (λ d. is_some (as_table d)) (map view (take l.item-index l.items)) ≡ true;
  drafts : l.drafts ≡ map (λ d. draft_of (unwrap_or (as_table d) no_members)) (map view (take l.item-index l.items));
}
