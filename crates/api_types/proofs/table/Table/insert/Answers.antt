use Rattle.std.proofs.Common.{◌≡◌, ◌∙◌, ◌+◌, ap, sym, insert, None, true≢false, is_some}
use Rattle.std.specs.Map.{lookup}
use Rattle.indexmap.specs.IndexMap.{get}
use Rattle.api_types.specs.Counts.{one_at}
use Rattle.api_types.specs.Table.{entries_of, row_of, ident_eq, owned_count}
use Rattle.api_types.proofs.CountLemmas.{owned_inserted}
use Rattle.api_types.proofs.TableLemmas.{insert-entries_of, lookup-entries_of, kept, seen}
use Rattle.api_types.proofs.PlaceLemmas.{put_back_at}
use Rattle.api_types.proofs.table.Table.insert.Goals as goal

pub shift_insert-requires-clause-below_len : goal.shift_insert-requires-clause-below_len
shift_insert-requires-clause-below_len g c = λ h.
    let before = c.in_ok-reserve.ensures.entries ∙ c.self.invariant.by_id ∙ ap (entries_of g.R.Keyed.id_of) c.self.view_is in
    let free : get ident_eq c.reserve.new.self c.id.result ≡ None =
    ap (lookup (ident_eq c.id.result)) before ∙ lookup-entries_of g.R.Keyed.id_of (ident_eq c.id.result) _ ∙ ap (λ i. row_of g.R.Keyed.id_of i c.args.self.now) c.id.ensures ∙ c.requires.new_id in
    absurd (true≢false (sym h ∙ ap is_some free))

now_kept : (g : _) (c : goal.Joined-this g) → c.shift_insert.new.self.entries ≡ entries_of g.R.Keyed.id_of (insert c.args.self.now c.args.place c.args.row)
now_kept g c =
    let before = c.in_ok-reserve.ensures.entries ∙ c.self.invariant.by_id ∙ ap (entries_of g.R.Keyed.id_of) c.self.view_is in
    let free : get ident_eq c.reserve.new.self c.id.result ≡ None =
    ap (lookup (ident_eq c.id.result)) before ∙ lookup-entries_of g.R.Keyed.id_of (ident_eq c.id.result) _ ∙ ap (λ i. row_of g.R.Keyed.id_of i c.args.self.now) c.id.ensures ∙ c.requires.new_id in
    c.in-Ok.ensures.entries ∙ put_back_at ident_eq c.reserve.new.self _ _ c.args.place free ∙ (λ j. insert (before j) c.args.place (c.id.ensures j, c.args.row)) ∙ insert-entries_of g.R.Keyed.id_of _ c.args.place c.args.row

pub invariant_of-self-2 : goal.invariant_of-self-2
invariant_of-self-2 g c =
    let project_of = g.R.Keyed.project_of in
    record {
      by_id = kept g.R.Keyed.id_of _ _ (now_kept g c);
      counts = λ project. c.in_ok-count_one.ensures.ok project
          ∙ (λ j. (c.self.invariant.counts project ∙ ap (owned_count project_of project) c.self.view_is) j + one_at (c.project.ensures j) project)
          ∙ sym (owned_inserted project_of project c.args.self.now c.args.place c.args.row)
          ∙ ap (owned_count project_of project) (sym (seen g.R.Keyed.id_of _ _ (now_kept g c)));
    }

pub returns-clause-ok : goal.returns-clause-ok
returns-clause-ok g c = seen g.R.Keyed.id_of _ _ (now_kept g c)
