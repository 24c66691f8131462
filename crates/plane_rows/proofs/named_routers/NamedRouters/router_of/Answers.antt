use Rattle.std.proofs.Common.{◌∙◌, ap, find}
use Rattle.plane_rows.specs.Named.{is_named}
use Rattle.plane_rows.proofs.named_routers.NamedRouters.router_of.Goals as goal

pub returns : goal.returns
returns c = c.find_router.ensures ∙ ap (λ t. find (is_named t) c.args.self.now.routers) c.as_str.ensures
