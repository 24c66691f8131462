use Rattle.std.proofs.Common.{◌∙◌, ap}
use Rattle.net_addr.specs.Prefixes.{contains}
use Rattle.api_types.specs.Table.{ident_eq}
use Rattle.plane_types.specs.TableStep.{in_set}
use Rattle.plane_types.specs.Tables.{Tables}
use Rattle.plane_types.specs.declared.table.SetRow.{SetRow}
use Rattle.plane_types.proofs.RunLemmas.{any_near}
use Rattle.plane_types.proofs.tables.HostTables.in_set.Goals as goal

pub returns : goal.returns
returns c =
    c.set_among.ensures
    ∙ any_near (λ (s : SetRow). ident_eq c.args.group s.group) (λ (s : SetRow). contains s.prefix c.args.far.now) c.near.result.now c.self.inside.sets.items c.near.ensures
    ∙ ap (λ (t : Tables). in_set t.lists c.args.group c.args.far.now) c.self.view_is
