use Rattle.std.proofs.Common.{ap, ◌∙◌}
use Rattle.api_types.specs.declared.kind.Kind.TheVariants.{Port}
use Rattle.api_types.specs.declared.port.PortRow.{PortRow}
use Rattle.api_check.specs.Broken.{breaks}
use Rattle.api_ml2.specs.Carrying.{carries}
use Rattle.api_check.specs.Placing.{port_placed}
use Rattle.api_check.proofs.hosts.broken_placing.Goals as goal

pub returns : goal.returns
returns c = c.broken_port.ensures ∙ ap (λ hosts. breaks 8 Port (λ (r : PortRow). r.id) (port_placed (carries hosts) c.args.rows.now) c.args.rows.now.ports) c.hosts.ensures.value
