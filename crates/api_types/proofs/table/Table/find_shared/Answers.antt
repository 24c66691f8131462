use Rattle.std.proofs.Common.{◌∙◌, ap}
use Rattle.std.specs.Map.{lookup}
use Rattle.api_types.specs.Table.{row_of, ident_eq}
use Rattle.api_types.proofs.TableLemmas.{lookup-entries_of}
use Rattle.api_types.proofs.table.Table.find_shared.Goals as goal

pub returns : goal.returns
returns g c = c.get.ensures.value ∙ ap (lookup (ident_eq c.args.id)) c.self.invariant.by_id ∙ lookup-entries_of g.R.Keyed.id_of (ident_eq c.args.id) _ ∙ ap (row_of g.R.Keyed.id_of c.args.id) c.self.view_is
