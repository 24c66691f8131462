use Rattle.std.proofs.Common.{refl}
use Rattle.clap.proofs.OnLiterals.{clap_on_literals}
use Rattle.command_lines.proofs.worked.agent_lines.Goals as goal

pub returns-clause-joined : goal.returns-clause-joined
unfolding clap_on_literals
returns-clause-joined c = refl

pub returns-clause-apart : goal.returns-clause-apart
unfolding clap_on_literals
returns-clause-apart c = refl

pub returns-clause-settings : goal.returns-clause-settings
unfolding clap_on_literals
returns-clause-settings c = refl

pub returns-clause-no_connect : goal.returns-clause-no_connect
unfolding clap_on_literals
returns-clause-no_connect c = refl

pub returns-clause-no_host : goal.returns-clause-no_host
unfolding clap_on_literals
returns-clause-no_host c = refl

pub returns-clause-no_rounds : goal.returns-clause-no_rounds
unfolding clap_on_literals
returns-clause-no_rounds c = refl

pub returns-clause-no_round : goal.returns-clause-no_round
unfolding clap_on_literals
returns-clause-no_round c = refl

pub returns-clause-many_rounds : goal.returns-clause-many_rounds
unfolding clap_on_literals
returns-clause-many_rounds c = refl

pub returns-clause-twice : goal.returns-clause-twice
unfolding clap_on_literals
returns-clause-twice c = refl

pub returns-clause-further_word : goal.returns-clause-further_word
unfolding clap_on_literals
returns-clause-further_word c = refl

pub returns-clause-other_command : goal.returns-clause-other_command
unfolding clap_on_literals
returns-clause-other_command c = refl
