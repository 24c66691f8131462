use Rattle.std.specs.HashMap.{get}
use Rattle.api_types.specs.Table.{ident_eq}
use Rattle.l2_delta.proofs.CoverLemmas.{looked_more}
use Rattle.l2_delta.proofs.ruled.look_up.Goals as goal

pub returns-in_ok-insert : goal.returns-in_ok-insert
returns-in_ok-insert c = λ i.
    looked_more (λ v. v.items) c.args.rules.now c.args.group i c.in_ok-rules_of.field-0 (get ident_eq c.args.by_group.now i) (get ident_eq c.insert.new.self i)
    (c.in_ok-insert.ensures.updates.0 i) c.in_ok-rules_of.ensures (c.requires i)
