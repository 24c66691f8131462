use Rattle.std.proofs.Common.{rules, ◌∙◌, ap}
use Rattle.std.specs.List.{filter}
use Rattle.std.proofs.lemmas.Fn.{filter_same}
use Rattle.plane_types.specs.Attached.{is_attached as is_attached_at}
use Rattle.plane_types.proofs.entries.SpareVec+Entry.keep_attached.Goals as goal

-- what the closure says of each entry is whether it is attached
pub returns-clause-items : goal.returns-clause-items
returns-clause-items c =
    filter_same _ (is_attached_at c.args.tables.now.lists) _ (λ x b f' k. search rules) _ _ c.retain.ensures.filtered ∙ ap (λ v. filter (is_attached_at c.args.tables.now.lists) v.items) c.self.view_is
