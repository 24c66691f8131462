use Rattle.std.proofs.Common.{◌≡◌, ◌∙◌, ap, ◌++◌, ◌∷◌, [], None}
use Rattle.std.specs.Map.{lookup}
use Rattle.indexmap.specs.IndexMap.{get}
use Rattle.indexmap.proofs.CallerLemmas.{insert_entry-new}
use Rattle.api_types.specs.Table.{entries_of, row_of, ident_eq}
use Rattle.api_types.proofs.TableLemmas.{append-entries_of, lookup-entries_of, kept, seen}
use Rattle.old_rows.proofs.table.OldTable.push.Goals as goal

now_kept : (g : _) (c : goal.Joined-branch-2 g) → c.insert.new.self.entries ≡ entries_of g.R.OldRow.id_of (c.args.self.now ++ c.args.row ∷ [])
now_kept g c =
    let before = c.self.invariant ∙ ap (entries_of g.R.OldRow.id_of) c.self.view_is in
    let free : get ident_eq c.self.inside.by_id c.id.result ≡ None =
    ap (lookup (ident_eq c.id.result)) before ∙ lookup-entries_of g.R.OldRow.id_of (ident_eq c.id.result) _ ∙ ap (λ i. row_of g.R.OldRow.id_of i c.args.self.now) c.id.ensures ∙ c.requires in
    c.in_ok-insert.ensures.entries ∙ insert_entry-new ident_eq c.self.inside.by_id _ _ free ∙ (λ j. before j ++ (c.id.ensures j, c.args.row) ∷ []) ∙ append-entries_of g.R.OldRow.id_of _ c.args.row

pub invariant_of-self-2 : goal.invariant_of-self-2
invariant_of-self-2 g c = kept g.R.OldRow.id_of _ _ (now_kept g c)

pub returns-clause-ok : goal.returns-clause-ok
returns-clause-ok g c = seen g.R.OldRow.id_of _ _ (now_kept g c)
