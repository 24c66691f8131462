use Rattle.std.proofs.Common.{refl}
use Rattle.clap.proofs.OnLiterals.{clap_on_literals}
use Rattle.command_lines.proofs.worked.taken_by_clap.Goals as goal

pub returns-clause-dashes : goal.returns-clause-dashes
unfolding clap_on_literals
returns-clause-dashes c = refl

pub returns-clause-empty_value : goal.returns-clause-empty_value
unfolding clap_on_literals
returns-clause-empty_value c = refl

pub returns-clause-hyphen_joined : goal.returns-clause-hyphen_joined
unfolding clap_on_literals
returns-clause-hyphen_joined c = refl

pub returns-clause-hyphen_alone : goal.returns-clause-hyphen_alone
unfolding clap_on_literals
returns-clause-hyphen_alone c = refl

pub returns-clause-other_delivery : goal.returns-clause-other_delivery
unfolding clap_on_literals
returns-clause-other_delivery c = refl

pub returns-clause-connections_zero : goal.returns-clause-connections_zero
unfolding clap_on_literals
returns-clause-connections_zero c = refl

pub returns-clause-connections_many : goal.returns-clause-connections_many
unfolding clap_on_literals
returns-clause-connections_many c = refl

pub returns-clause-connections_signed : goal.returns-clause-connections_signed
unfolding clap_on_literals
returns-clause-connections_signed c = refl

pub returns-clause-serve_dashes : goal.returns-clause-serve_dashes
unfolding clap_on_literals
returns-clause-serve_dashes c = refl

pub returns-clause-size_zero : goal.returns-clause-size_zero
unfolding clap_on_literals
returns-clause-size_zero c = refl

pub returns-clause-size_large : goal.returns-clause-size_large
unfolding clap_on_literals
returns-clause-size_large c = refl

pub returns-clause-start_large : goal.returns-clause-start_large
unfolding clap_on_literals
returns-clause-start_large c = refl

pub returns-clause-start_signed : goal.returns-clause-start_signed
unfolding clap_on_literals
returns-clause-start_signed c = refl

pub returns-clause-start_long : goal.returns-clause-start_long
unfolding clap_on_literals
returns-clause-start_long c = refl

pub returns-clause-drill_dashes : goal.returns-clause-drill_dashes
unfolding clap_on_literals
returns-clause-drill_dashes c = refl

pub returns-clause-empty_number : goal.returns-clause-empty_number
unfolding clap_on_literals
returns-clause-empty_number c = refl
