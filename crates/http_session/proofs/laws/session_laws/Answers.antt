use Rattle.http_session.proofs.One.{one_account}
use Rattle.http_session.proofs.laws.session_laws.Goals as goal

pub returns : goal.returns
returns g c = one_account g.H.Handler.steps g.H.Handler.fixed
