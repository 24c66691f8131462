use Rattle.std.proofs.Common.{None}
use Rattle.std.proofs.lemmas.Map.Text.{hash_map_updates_text}
use Rattle.plane_rows.proofs.legs.take_ports.Goals as goal

pub returns-in-Some-clause-rest : goal.returns-in-Some-clause-rest
returns-in-Some-clause-rest c = hash_map_updates_text c.args.device.now c.args.by_device.now c.remove.new.self None c.remove.ensures.updates
