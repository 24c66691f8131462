-- Which words are a command line of `audit`, and what they say. How `clap` reads words is said in
-- its own words.
use Rattle.std.specs.Prelude.{[], ◌∷◌, List, Option, None, codes, option_and_then, option_map, if◌then◌else◌}
use Rattle.std.specs.Str.{bytes_eq}
use Rattle.net_addr.specs.Words.{Text}
use Rattle.clap.specs.Walk.{Row, first_of}
use Rattle.clap.specs.Simple.{App, with_rule}
use Rattle.command_lines.specs.Commands.{option, plain_app, required_option}
use Rattle.command_lines.specs.Lines.{opening_by, rows_read}
use Rattle.command_lines.specs.Values.{optional_value, required_value}
use Rattle.command_lines.specs.declared.line.Delivery.TheVariants.{Automatic}
use Rattle.reach_audit.specs.declared.arguments.Arguments.{Arguments}

-- the options `wanted`, which is required, `settings` and `store`
abbrev pub audit_app : App
audit_app =
    with_rule
    (with_rule (with_rule (plain_app (codes "audit")) (required_option (codes "wanted")))
    (option (codes "settings"))) (option (codes "store"))

abbrev pub arguments_by : Text → Option Text → Option Text → Arguments
arguments_by wanted settings store =
    record { wanted = wanted; opening = opening_by settings store Automatic }

-- what is found, if each value is one
abbrev pub arguments_in : List Row → Option Arguments
arguments_in rows =
    option_and_then (λ wanted.
    option_and_then (λ settings. option_map (λ store. arguments_by wanted settings store)
    (optional_value (first_of (codes "store") rows)))
    (optional_value (first_of (codes "settings") rows)))
    (required_value (first_of (codes "wanted") rows))

abbrev pub options_of : List Text → Option Arguments
options_of words = option_and_then arguments_in (rows_read audit_app words)

-- what the words after the program's name say, if they are a command line of `audit`
abbrev pub arguments_of : List Text → Option Arguments
arguments_of [] = None
arguments_of (command ∷ words) =
    if bytes_eq command (codes "audit") then options_of words else None
