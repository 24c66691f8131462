use Rattle.std.proofs.Common.{refl}
use Rattle.clap.proofs.OnLiterals.{clap_on_literals}
use Rattle.command_lines.proofs.worked.refused_by_clap.Goals as goal

pub returns-clause-more_words : goal.returns-clause-more_words
unfolding clap_on_literals
returns-clause-more_words c = refl

pub returns-clause-no_value : goal.returns-clause-no_value
unfolding clap_on_literals
returns-clause-no_value c = refl

pub returns-clause-hyphen_apart : goal.returns-clause-hyphen_apart
unfolding clap_on_literals
returns-clause-hyphen_apart c = refl

pub returns-clause-store_twice : goal.returns-clause-store_twice
unfolding clap_on_literals
returns-clause-store_twice c = refl

pub returns-clause-short_help : goal.returns-clause-short_help
unfolding clap_on_literals
returns-clause-short_help c = refl

pub returns-clause-help : goal.returns-clause-help
unfolding clap_on_literals
returns-clause-help c = refl

pub returns-clause-short_of_store : goal.returns-clause-short_of_store
unfolding clap_on_literals
returns-clause-short_of_store c = refl

pub returns-clause-one_hyphen : goal.returns-clause-one_hyphen
unfolding clap_on_literals
returns-clause-one_hyphen c = refl

pub returns-clause-option_for_value : goal.returns-clause-option_for_value
unfolding clap_on_literals
returns-clause-option_for_value c = refl

pub returns-clause-word_behind : goal.returns-clause-word_behind
unfolding clap_on_literals
returns-clause-word_behind c = refl

pub returns-clause-no_connections : goal.returns-clause-no_connections
unfolding clap_on_literals
returns-clause-no_connections c = refl

pub returns-clause-no_listen : goal.returns-clause-no_listen
unfolding clap_on_literals
returns-clause-no_listen c = refl

pub returns-clause-no_size : goal.returns-clause-no_size
unfolding clap_on_literals
returns-clause-no_size c = refl

pub returns-clause-three_numbers : goal.returns-clause-three_numbers
unfolding clap_on_literals
returns-clause-three_numbers c = refl

pub returns-clause-start_negative : goal.returns-clause-start_negative
unfolding clap_on_literals
returns-clause-start_negative c = refl

pub returns-clause-replies_twice : goal.returns-clause-replies_twice
unfolding clap_on_literals
returns-clause-replies_twice c = refl

pub returns-clause-replies_value : goal.returns-clause-replies_value
unfolding clap_on_literals
returns-clause-replies_value c = refl

pub returns-clause-drill_store : goal.returns-clause-drill_store
unfolding clap_on_literals
returns-clause-drill_store c = refl
