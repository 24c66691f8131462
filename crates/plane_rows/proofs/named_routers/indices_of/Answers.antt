use Rattle.std.proofs.Common.{◌≡◌, ◌∙◌, ◌+◌, ◌-◌, ◌<◌, Some, cond, length, drop, get_or, slice_get, ap, sym, arith}
use Rattle.std.specs.Prelude.{string_bytes}
use Rattle.std.specs.HashMap.{get_by_text}
use Rattle.std.specs.Option.{option_and_then}
use Rattle.std.specs.Str.{bytes_eq}
use Rattle.std.proofs.lemmas.Map.Text.{hash_map_updates_text}
use Rattle.api_types.specs.declared.router.RouterRow.{RouterRow}
use Rattle.plane_rows.proofs.LookLemmas.{named, router_here}
use Rattle.plane_rows.proofs.named_routers.indices_of.Goals as goal

pub loop-left-preserved : goal.loop-left-preserved
loop-left-preserved c =
    let routers = c.args.routers.now in
    let left = c.loop-left.left in
    let behind : left ≡ (left - 1) + 1 = omega arith in
    let within : left - 1 < length routers = omega (arith, c.loop-left.invariant.within) in
    let row = c.get-router.result.now in
    let is : row ≡ get_or routers (left - 1) row = c.get-router.ensures ∙ c.index-routers-left.is ∙ ap (λ (r : RouterRow). get_or routers (left - 1) r) (sym c.get-router.ensures) in
    record {
      within = omega (arith, c.loop-left.invariant.within);
      found = λ t. ap (option_and_then (slice_get routers)) (hash_map_updates_text (string_bytes c.in_ok-name.name) c.loop-left.indices c.insert.new.self (Some (left - 1)) c.in_ok-insert.ensures.updates t
          ∙ ap (λ bs. cond (bytes_eq bs t) (Some (left - 1)) (get_by_text c.loop-left.indices t)) c.in_ok-name.ensures)
          ∙ router_here routers (left - 1) row t _ within is (c.loop-left.invariant.found t ∙ ap (λ m. named t (drop m routers)) behind);
    }
