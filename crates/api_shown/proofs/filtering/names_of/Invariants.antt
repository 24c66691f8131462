use Rattle.std.proofs.Common.{◌≡◌, ℕ, List, Bool, drop, map}
use Rattle.std.specs.Prelude.{◌&&◌}
use Rattle.std.specs.List.{list_all}
use Rattle.api_types.specs.declared.call.Filter.{Filter}
use Rattle.api_shown.proofs.filtering.names_of.Given as goal

-- what holds of the names so far and of those of the filters that are left holds of those of all
abbrev pub invariant-loop-filter : goal.invariant-loop-filter
invariant-loop-filter l = (p : List ℕ → Bool)
    → (list_all p (map (λ n. n.now) l.names.items) && list_all (λ (f : Filter). p f.name) (drop l.filter-index l.filters))
    ≡ list_all (λ (f : Filter). p f.name) l.filters
