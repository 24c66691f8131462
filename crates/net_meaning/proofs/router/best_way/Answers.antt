use Rattle.std.proofs.Common.{◌∙◌, ◌++◌, [], ◌∷◌, Some, ap, sym, refl, append_assoc}
use Rattle.std.specs.Prelude.{if◌then◌else◌}
use Rattle.std.proofs.lemmas.List.{append-nil}
use Rattle.net_addr.specs.Prefixes.{contains}
use Rattle.plane_types.specs.Routing.{best_way as best_of_ways, better as better_of}
use Rattle.plane_rows.specs.Ways.{way_of}
use Rattle.net_meaning.proofs.router.best_way.Goals as goal

pub loop-way-init : goal.loop-way-init
unfolding best_of_ways
loop-way-init c = ([], append-nil c.args.ways.items, refl)

pub loop-way-preserved : goal.loop-way-preserved
unfolding best_of_ways
loop-way-preserved c =
    let taken = c.loop-way.invariant.0 in (
      c.in-Some.way ∷ taken,
      sym (append_assoc c.pop.new.self.items (c.in-Some.way ∷ []) taken) ∙ ap (λ ws. ws ++ taken) (sym c.in-Some.ensures.items) ∙ c.loop-way.invariant.1,
      c.better_for-best.ensures ∙ ap (λ o. if contains c.in-Some.way.prefix c.args.destination.now then Some (better_of (way_of c.in-Some.way) o) else o) c.loop-way.invariant.2,
    )
