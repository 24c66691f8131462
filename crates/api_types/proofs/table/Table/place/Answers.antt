use Rattle.std.proofs.Common.{◌≡◌, ◌∙◌, ap, subst, slice_get}
use Rattle.std.specs.Prelude.{is_some, IfSome}
use Rattle.std.specs.List.{position}
use Rattle.std.specs.Map.{keys_of, lookup}
use Rattle.indexmap.specs.IndexMap.{get_by, values}
use Rattle.api_types.specs.Table.{entries_of, row_of, ident_eq}
use Rattle.api_types.proofs.TableLemmas.{keys-entries_of, lookup-entries_of, row_found, place_within}
use Rattle.api_types.proofs.table.Table.place.Goals as goal

-- the row that the map has at the id
row_is : (g : _) (c : goal.After-get_index_of g) → get_by (ident_eq c.args.id) c.self.inside.by_id ≡ row_of g.R.Keyed.id_of c.args.id c.args.self.now
row_is g c =
    ap (lookup (ident_eq c.args.id)) c.self.invariant.by_id ∙ lookup-entries_of g.R.Keyed.id_of (ident_eq c.args.id) _ ∙ ap (row_of g.R.Keyed.id_of c.args.id) c.self.view_is

found : (g : _) (c : goal.After-get_index_of g) → is_some c.get_index_of.result ≡ is_some (row_of g.R.Keyed.id_of c.args.id c.args.self.now)
found g c = c.get_index_of.ensures.found ∙ ap is_some (row_is g c)

stands : (g : _) (c : goal.After-get_index_of g) → IfSome c.get_index_of.result (λ k. slice_get c.args.self.now k ≡ row_of g.R.Keyed.id_of c.args.id c.args.self.now)
stands g c =
    subst (λ rows. IfSome c.get_index_of.result (λ k. slice_get rows k ≡ row_of g.R.Keyed.id_of c.args.id c.args.self.now)) c.self.view_is
    (subst (λ row. IfSome c.get_index_of.result (λ k. slice_get (values c.self.inside.by_id) k ≡ row)) (row_is g c) c.get_index_of.ensures.value)

pub returns-clause-place : goal.returns-clause-place
returns-clause-place g c =
    c.get_index_of.ensures.index ∙ ap (λ es. position (ident_eq c.args.id) (keys_of es)) (c.self.invariant.by_id ∙ ap (entries_of g.R.Keyed.id_of) c.self.view_is)
    ∙ ap (position (ident_eq c.args.id)) (keys-entries_of g.R.Keyed.id_of c.args.self.now)

pub returns-clause-row : goal.returns-clause-row
returns-clause-row g c = row_found c.args.self.now c.get_index_of.result _ (found g c) (stands g c)

pub returns-clause-found : goal.returns-clause-found
returns-clause-found g c = found g c

pub returns-clause-within : goal.returns-clause-within
returns-clause-within g c = place_within c.args.self.now c.get_index_of.result _ (found g c) (stands g c)
