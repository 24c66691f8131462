use Rattle.std.proofs.Common.{refl}
use Rattle.clap.proofs.OnLiterals.{clap_on_literals}
use Rattle.command_lines.proofs.worked.lines.Goals as goal

pub returns-clause-session : goal.returns-clause-session
unfolding clap_on_literals
returns-clause-session c = refl

pub returns-clause-store_joined : goal.returns-clause-store_joined
unfolding clap_on_literals
returns-clause-store_joined c = refl

pub returns-clause-store_apart : goal.returns-clause-store_apart
unfolding clap_on_literals
returns-clause-store_apart c = refl

pub returns-clause-all_apart : goal.returns-clause-all_apart
unfolding clap_on_literals
returns-clause-all_apart c = refl

pub returns-clause-serve : goal.returns-clause-serve
unfolding clap_on_literals
returns-clause-serve c = refl

pub returns-clause-serve_joined : goal.returns-clause-serve_joined
unfolding clap_on_literals
returns-clause-serve_joined c = refl

pub returns-clause-drill : goal.returns-clause-drill
unfolding clap_on_literals
returns-clause-drill c = refl

pub returns-clause-replies_between : goal.returns-clause-replies_between
unfolding clap_on_literals
returns-clause-replies_between c = refl

pub returns-clause-replies_first : goal.returns-clause-replies_first
unfolding clap_on_literals
returns-clause-replies_first c = refl

pub returns-clause-leading_zeros : goal.returns-clause-leading_zeros
unfolding clap_on_literals
returns-clause-leading_zeros c = refl

pub returns-clause-equals_in_value : goal.returns-clause-equals_in_value
unfolding clap_on_literals
returns-clause-equals_in_value c = refl

pub returns-clause-longest_number : goal.returns-clause-longest_number
unfolding clap_on_literals
returns-clause-longest_number c = refl
