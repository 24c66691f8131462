-- Entries that are of taps and routers of other tables stay placed by these.
use Rattle.std.proofs.Common.{◌≡◌, ℕ, ◌≤◌, List, Bool, true, cond, arith}
use Rattle.std.specs.Prelude.{count_by}
use Rattle.std.specs.List.{filter}
use Rattle.api_types.proofs.ListLemmas.{each-filter, sum-filter-le}
use Rattle.plane_types.specs.Attached.{IsAttached, is_attached, meets, translates}
use Rattle.plane_types.specs.declared.entry.Entry.{Entry}
use Rattle.plane_types.specs.declared.lists.TableLists.{TableLists}

-- no more pass among some of the entries
fewer : (keep test : Entry → Bool) (es : List Entry) → count_by test es ≤ 1 → count_by test (filter keep es) ≤ 1
fewer keep test es h = omega (arith, h, sum-filter-le keep (λ e. cond {A = ℕ} (test e) 1 0) es)

pub stay_placed : (name : List ℕ) (old new : TableLists) (es : List Entry) → IsAttached (record { name = name; tables = old; entries = es }) → IsAttached (record { name = name; tables = new; entries = filter (is_attached new) es })
stay_placed name old new es h = record {
  stand = each-filter (is_attached new) (λ e. Unit {0}) (λ e. is_attached new e ≡ true) es (λ e kept w. kept) (λ k e at. tt);
  once_outside = λ router kind outer port far far_port. fewer (is_attached new) (meets router kind outer port far far_port) es (h.once_outside router kind outer port far far_port);
  once_inside = λ router key outer. fewer (is_attached new) (translates router key outer) es (h.once_inside router key outer);
}
