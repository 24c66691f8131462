use Rattle.std.proofs.Common.{◌≡◌, true, [], take, map, is_some, unwrap_or}
use Rattle.std.specs.List.{list_all}
use Rattle.toml.specs.Data.{as_str}
use Rattle.toml.specs.View.{view}
use Rattle.net_settings.proofs.texts.texts_among.Given as goal

abbrev pub invariant-loop-item : goal.invariant-loop-item
invariant-loop-item l = record {
  all : list_all (λ d. is_some (as_str d)) (map view (take l.item-index l.items)) ≡ true;
  texts : l.texts ≡ map (λ d. unwrap_or (as_str d) []) (map view (take l.item-index l.items));
}
