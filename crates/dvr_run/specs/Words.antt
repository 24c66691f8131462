-- The words of the command: `dvr`, then those of a session, but for `--delivery`.
use Rattle.std.specs.Prelude.{Bool, List, None, Option, Some, [], codes, if◌then◌else◌, option_and_then, take, ◌∷◌}
use Rattle.std.specs.List.{list_any}
use Rattle.std.specs.Str.{bytes_eq}
use Rattle.command_lines.specs.Lines.{line_of}
use Rattle.command_lines.specs.declared.line.Line.{Line}
use Rattle.command_lines.specs.declared.line.Line.TheVariants.{Drill, Serve, Session}
use Rattle.command_lines.specs.declared.line.Opening.{Opening}
use Rattle.net_addr.specs.Words.{Text}

abbrev pub begins_delivery : Text → Bool
begins_delivery word = bytes_eq (take 10 word) (codes "--delivery")

abbrev pub session_words : List Text → List Text
session_words words = codes "session" ∷ words

abbrev pub opening_in_session : Line → Option Opening
opening_in_session (Session opening) = Some opening
opening_in_session (Serve opening address connections) = None
opening_in_session (Drill start size replies) = None

abbrev pub opening_after : List Text → Option Opening
opening_after words =
    if list_any begins_delivery words then None
    else option_and_then opening_in_session (line_of (session_words words))

-- the settings and the store that the words after the program's name give, if they are the command
abbrev pub opening_given : List Text → Option Opening
opening_given [] = None
opening_given (command ∷ words) =
    if bytes_eq command (codes "dvr") then opening_after words else None
