use Rattle.std.proofs.Common.{refl}
use Rattle.apart_laws.proofs.Drawn.{draws_sparing}
use Rattle.apart_laws.proofs.Steps.{spares_all}
use Rattle.apart_laws.proofs.drawings_spare_others.Goals as goal

pub returns : goal.returns
returns c state project many d drawn = spares_all project state.rows d.rows (draws_sparing state project project many d refl drawn).spares
