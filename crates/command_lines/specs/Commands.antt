-- The commands as `clap` is told of them.
use Rattle.std.specs.Prelude.{true, Some, codes}
use Rattle.clap.specs.Walk.{Rule, Text}
use Rattle.clap.specs.Simple.{App, Shape, new_app, new_rule, with_rule, on_top}
use Rattle.clap.specs.declared.builder.action.ArgAction.TheVariants.{SetTrue}

-- an option with a value
abbrev pub option : Text → Rule
option name = record (new_rule name) { long = Some name }

abbrev pub required_option : Text → Rule
required_option name = record (new_rule name) { long = Some name; required = true }

-- a word that is there
abbrev pub word : Text → Rule
word name = record (new_rule name) { required = true }

-- an option without a value
abbrev pub flag : Text → Rule
flag name = record (new_rule name) { long = Some name; action = Some SetTrue }

-- the words don't begin with a program's name, and there is no option for help or the version
abbrev pub plain : Shape → Shape
plain s = record s { no_binary_name = true; disable_help_flag = true; disable_version_flag = true }

abbrev pub plain_app : Text → App
plain_app name = on_top plain (new_app name)

abbrev pub session_app : App
session_app =
    with_rule
    (with_rule (with_rule (plain_app (codes "session")) (option (codes "settings")))
    (option (codes "store"))) (option (codes "delivery"))

abbrev pub serve_app : App
serve_app =
    with_rule (with_rule session_app (required_option (codes "listen")))
    (required_option (codes "connections"))

-- `agent` with the server and the host alone
abbrev pub host_app : App
host_app =
    with_rule (with_rule (plain_app (codes "agent")) (required_option (codes "connect")))
    (required_option (codes "host"))

abbrev pub agent_app : App
agent_app =
    with_rule (with_rule host_app (required_option (codes "rounds")))
    (option (codes "settings"))

abbrev pub drill_app : App
drill_app =
    with_rule
    (with_rule (with_rule (plain_app (codes "drill")) (word (codes "start")))
    (word (codes "size"))) (flag (codes "replies"))
