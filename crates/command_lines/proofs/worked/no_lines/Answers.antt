use Rattle.std.proofs.Common.{refl}
use Rattle.clap.proofs.OnLiterals.{clap_on_literals}
use Rattle.command_lines.proofs.worked.no_lines.Goals as goal

pub returns-clause-no_words : goal.returns-clause-no_words
unfolding clap_on_literals
returns-clause-no_words c = refl

pub returns-clause-sessions : goal.returns-clause-sessions
unfolding clap_on_literals
returns-clause-sessions c = refl

pub returns-clause-more_words : goal.returns-clause-more_words
unfolding clap_on_literals
returns-clause-more_words c = refl

pub returns-clause-dashes : goal.returns-clause-dashes
unfolding clap_on_literals
returns-clause-dashes c = refl

pub returns-clause-no_value : goal.returns-clause-no_value
unfolding clap_on_literals
returns-clause-no_value c = refl

pub returns-clause-empty_value : goal.returns-clause-empty_value
unfolding clap_on_literals
returns-clause-empty_value c = refl

pub returns-clause-hyphen_apart : goal.returns-clause-hyphen_apart
unfolding clap_on_literals
returns-clause-hyphen_apart c = refl

pub returns-clause-hyphen_joined : goal.returns-clause-hyphen_joined
unfolding clap_on_literals
returns-clause-hyphen_joined c = refl

pub returns-clause-hyphen_alone : goal.returns-clause-hyphen_alone
unfolding clap_on_literals
returns-clause-hyphen_alone c = refl

pub returns-clause-store_twice : goal.returns-clause-store_twice
unfolding clap_on_literals
returns-clause-store_twice c = refl

pub returns-clause-store_again : goal.returns-clause-store_again
unfolding clap_on_literals
returns-clause-store_again c = refl

pub returns-clause-other_option : goal.returns-clause-other_option
unfolding clap_on_literals
returns-clause-other_option c = refl

pub returns-clause-help : goal.returns-clause-help
unfolding clap_on_literals
returns-clause-help c = refl

pub returns-clause-short_help : goal.returns-clause-short_help
unfolding clap_on_literals
returns-clause-short_help c = refl

pub returns-clause-version : goal.returns-clause-version
unfolding clap_on_literals
returns-clause-version c = refl

pub returns-clause-other_delivery : goal.returns-clause-other_delivery
unfolding clap_on_literals
returns-clause-other_delivery c = refl

pub returns-clause-no_delivery : goal.returns-clause-no_delivery
unfolding clap_on_literals
returns-clause-no_delivery c = refl

pub returns-clause-option_for_value : goal.returns-clause-option_for_value
unfolding clap_on_literals
returns-clause-option_for_value c = refl

pub returns-clause-bare_serve : goal.returns-clause-bare_serve
unfolding clap_on_literals
returns-clause-bare_serve c = refl

pub returns-clause-no_connections : goal.returns-clause-no_connections
unfolding clap_on_literals
returns-clause-no_connections c = refl

pub returns-clause-no_listen : goal.returns-clause-no_listen
unfolding clap_on_literals
returns-clause-no_listen c = refl

pub returns-clause-connections_zero : goal.returns-clause-connections_zero
unfolding clap_on_literals
returns-clause-connections_zero c = refl

pub returns-clause-connections_many : goal.returns-clause-connections_many
unfolding clap_on_literals
returns-clause-connections_many c = refl

pub returns-clause-connections_signed : goal.returns-clause-connections_signed
unfolding clap_on_literals
returns-clause-connections_signed c = refl

pub returns-clause-serve_dashes : goal.returns-clause-serve_dashes
unfolding clap_on_literals
returns-clause-serve_dashes c = refl

pub returns-clause-bare_drill : goal.returns-clause-bare_drill
unfolding clap_on_literals
returns-clause-bare_drill c = refl

pub returns-clause-no_size : goal.returns-clause-no_size
unfolding clap_on_literals
returns-clause-no_size c = refl

pub returns-clause-three_numbers : goal.returns-clause-three_numbers
unfolding clap_on_literals
returns-clause-three_numbers c = refl

pub returns-clause-size_zero : goal.returns-clause-size_zero
unfolding clap_on_literals
returns-clause-size_zero c = refl

pub returns-clause-size_large : goal.returns-clause-size_large
unfolding clap_on_literals
returns-clause-size_large c = refl

pub returns-clause-start_large : goal.returns-clause-start_large
unfolding clap_on_literals
returns-clause-start_large c = refl

pub returns-clause-start_signed : goal.returns-clause-start_signed
unfolding clap_on_literals
returns-clause-start_signed c = refl

pub returns-clause-start_negative : goal.returns-clause-start_negative
unfolding clap_on_literals
returns-clause-start_negative c = refl

pub returns-clause-replies_twice : goal.returns-clause-replies_twice
unfolding clap_on_literals
returns-clause-replies_twice c = refl

pub returns-clause-replies_value : goal.returns-clause-replies_value
unfolding clap_on_literals
returns-clause-replies_value c = refl

pub returns-clause-start_long : goal.returns-clause-start_long
unfolding clap_on_literals
returns-clause-start_long c = refl

pub returns-clause-drill_dashes : goal.returns-clause-drill_dashes
unfolding clap_on_literals
returns-clause-drill_dashes c = refl

pub returns-clause-help_command : goal.returns-clause-help_command
unfolding clap_on_literals
returns-clause-help_command c = refl

pub returns-clause-help_first : goal.returns-clause-help_first
unfolding clap_on_literals
returns-clause-help_first c = refl

pub returns-clause-short_of_store : goal.returns-clause-short_of_store
unfolding clap_on_literals
returns-clause-short_of_store c = refl

pub returns-clause-one_hyphen : goal.returns-clause-one_hyphen
unfolding clap_on_literals
returns-clause-one_hyphen c = refl

pub returns-clause-word_behind : goal.returns-clause-word_behind
unfolding clap_on_literals
returns-clause-word_behind c = refl

pub returns-clause-drill_store : goal.returns-clause-drill_store
unfolding clap_on_literals
returns-clause-drill_store c = refl

pub returns-clause-empty_number : goal.returns-clause-empty_number
unfolding clap_on_literals
returns-clause-empty_number c = refl
