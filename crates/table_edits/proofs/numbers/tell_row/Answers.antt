use Rattle.std.proofs.Common.{◌∙◌, None, Some, ap, cond, subst, sym}
use Rattle.std.specs.Prelude.{option_copied}
use Rattle.std.specs.HashMap.{get}
use Rattle.api_types.specs.Table.{ident_eq}
use Rattle.table_edits.specs.NumbersTold.{Renumbers, number_by}
use Rattle.table_edits.proofs.NumbersTold.{made_put}
use Rattle.table_edits.proofs.numbers.tell_row.Goals as goal

pub returns-in_ok-insert-in-None-Some : goal.returns-in_ok-insert-in-None-Some
returns-in_ok-insert-in-None-Some g c =
    let id_of = g.R.Keyed.id_of in
    let row = c.in-None-Some.row.now in
    let old = number_by id_of c.args.table.now (get ident_eq c.args.made.now) in
    let new = number_by id_of c.args.table.now (get ident_eq c.insert.new.self) in
    subst (λ o. Renumbers id_of old new c.args.next (option_copied o) (option_copied c.args.new)) (sym c.in-None-Some.is-0)
    (subst (λ o. Renumbers id_of old new c.args.next None (option_copied o)) (sym c.in-None-Some.is-1)
    (made_put id_of c.args.table.now (get ident_eq c.args.made.now) (get ident_eq c.insert.new.self) (id_of row) c.args.next
    (λ q. c.in_ok-insert-in-None-Some.ensures.updates.0 q ∙ ap (λ i. cond (ident_eq i q) (Some c.args.next) (get ident_eq c.args.made.now q)) c.id.ensures)))
