use Rattle.std.proofs.Common.{◌∙◌, ap, sym, subst}
use Rattle.plane_types.specs.Realises.{RealisesTags}
use Rattle.plane_types.specs.NewTags.{new_tags}
use Rattle.plane_types.proofs.RetaggedLaw.{tags_stand}
use Rattle.l2_agent.proofs.wiring.wire_ports.Goals as goal

pub returns-clause-realised : goal.returns-clause-realised
returns-clause-realised c =
    let rows = c.args.rows.now in
    let host = c.args.host.now in
    λ given good. subst (RealisesTags rows host) (sym (c.in_ok-tags.ensures ∙ ap (new_tags rows host) c.as_slice.ensures)) (tags_stand rows host c.args.old.now given good)
