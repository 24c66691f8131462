use Rattle.agent_wire.proofs.SaidLemmas.{sound_by}
use Rattle.agent_wire.proofs.agent.are_sound.Goals as goal

pub returns : goal.returns
returns c =
    sound_by c.args.settings.now c.args.rows.now c.find_broken.result c.is_none.result c.is_none.ensures c.find_broken.ensures.none
    (λ consistent carried. record { consistent = consistent; typed = c.are_typed.ensures; carried = carried }) (λ s. s.carried)
