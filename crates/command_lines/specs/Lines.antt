-- Which words are a command line, and what they give. How `clap` reads words is said in its own
-- words (`fault_of`, `matches_of`).
use Rattle.std.specs.Prelude.{◌≡◌, ◌≢◌, ℕ, ◌^◌, ◌-◌, ◌&&◌, List, [], ◌∷◌, Bool, true, false, not, Option, Some, None, Result, Ok, Err, codes, if◌then◌else◌, is_some, option_map, option_and_then}
use Rattle.std.specs.List.{list_any}
use Rattle.std.specs.Str.{bytes_eq}
use Rattle.clap.specs.Walk.{Row, Text, first_of, rows_of}
use Rattle.clap.specs.Matches.{found_of}
use Rattle.clap.specs.declared.parser.matches.ArgMatches.{ArgMatches}
use Rattle.clap.specs.Simple.{App, matches_of}
use Rattle.clap.specs.Faults.{fault_of}
use Rattle.clap.specs.Kinds.{Kinds}
use Rattle.command_lines.specs.Commands.{agent_app, drill_app, serve_app, session_app}
use Rattle.command_lines.specs.Values.{delivery_of, is_set, optional_value, required_number, required_value}
use Rattle.command_lines.specs.declared.line.Delivery.{Delivery}
use Rattle.command_lines.specs.declared.line.Delivery.TheVariants.{Automatic}
use Rattle.command_lines.specs.declared.line.Opening.{Opening}
use Rattle.command_lines.specs.declared.line.AgentLine.{AgentLine}
use Rattle.command_lines.specs.declared.line.Line.{Line}
use Rattle.command_lines.specs.declared.line.Line.TheVariants.{Session, Serve, Drill}
use Rattle.command_lines.specs.declared.line.Refusal.{Refusal}
use Rattle.command_lines.specs.declared.line.Refusal.TheVariants.{Wrong}

abbrev pub has_none : Kinds → Bool
has_none [] = true
has_none (k ∷ ks) = false

-- one of the words is `--`
abbrev pub has_dashes : List Text → Bool
has_dashes words = list_any (λ w. bytes_eq w (codes "--")) words

-- `clap` finds no fault in the words, and none of them is `--`
abbrev pub is_read : App → List Text → Bool
is_read app words = not (has_dashes words) && has_none (fault_of app words)

-- what is found, where the words are read
abbrev pub rows_read : App → List Text → Option (List Row)
rows_read app words = if is_read app words then Some (matches_of app words) else None

abbrev pub opening_by : Option Text → Option Text → Delivery → Opening
opening_by settings store delivery =
    record { settings = settings; store = store; delivery = delivery }

abbrev pub opening_of : List Row → Option Opening
opening_of rows =
    option_and_then (λ settings.
    option_and_then (λ store. option_map (λ delivery. opening_by settings store delivery)
    (delivery_of (first_of (codes "delivery") rows)))
    (optional_value (first_of (codes "store") rows)))
    (optional_value (first_of (codes "settings") rows))

abbrev pub session_of : List Row → Option Line
session_of rows = option_map (λ opening. Session opening) (opening_of rows)

abbrev pub serve_of : List Row → Option Line
serve_of rows =
    option_and_then (λ opening.
    option_and_then (λ listen. option_map (λ connections. Serve opening listen connections)
    (required_number 1 1000000 (first_of (codes "connections") rows)))
    (required_value (first_of (codes "listen") rows)))
    (opening_of rows)

abbrev pub drill_of : List Row → Option Line
drill_of rows =
    option_and_then (λ start.
    option_map (λ size. Drill start size (is_set (first_of (codes "replies") rows)))
    (required_number 1 10000 (first_of (codes "size") rows)))
    (required_number 0 (2 ^ 64 - 1) (first_of (codes "start") rows))

abbrev pub session_line : List Text → Option Line
session_line words = option_and_then session_of (rows_read session_app words)

abbrev pub serve_line : List Text → Option Line
serve_line words = option_and_then serve_of (rows_read serve_app words)

abbrev pub drill_line : List Text → Option Line
drill_line words = option_and_then drill_of (rows_read drill_app words)

abbrev pub line_behind : Text → List Text → Option Line
line_behind command words =
    if bytes_eq command (codes "session") then session_line words
    else if bytes_eq command (codes "serve") then serve_line words
    else if bytes_eq command (codes "drill") then drill_line words
    else None

-- what the words after the program's name give, where they are a command line
abbrev pub line_of : List Text → Option Line
line_of [] = None
line_of (command ∷ words) = line_behind command words

abbrev pub agent_by : Text → Text → ℕ → Option Text → AgentLine
agent_by connect host rounds settings =
    record {
      connect = connect;
      host = host;
      rounds = rounds;
      opening = opening_by settings None Automatic;
    }

abbrev pub agent_of : List Row → Option AgentLine
agent_of rows =
    option_and_then (λ connect.
    option_and_then (λ host.
    option_and_then (λ rounds. option_map (λ settings. agent_by connect host rounds settings)
    (optional_value (first_of (codes "settings") rows)))
    (required_number 1 1000000 (first_of (codes "rounds") rows)))
    (required_value (first_of (codes "host") rows)))
    (required_value (first_of (codes "connect") rows))

abbrev pub agent_line : List Text → Option AgentLine
agent_line words = option_and_then agent_of (rows_read agent_app words)

abbrev pub agent_line_after : Text → List Text → Option AgentLine
agent_line_after command words =
    if bytes_eq command (codes "agent") then agent_line words else None

-- what the words after the program's name give, where they are a command line of `agent`
abbrev pub agent_line_of : List Text → Option AgentLine
agent_line_of [] = None
agent_line_of (command ∷ words) = agent_line_after command words

abbrev pub is_line : List Text → Bool
is_line words = is_some (line_of words)

-- Ok gives what there is, and Wrong comes where there is none
abbrev pub IsAnswer : {X : Type 0} → Result X Refusal → Option X → Type 0
IsAnswer (Ok x) given = given ≡ Some x
IsAnswer (Err refusal) given = refusal ≡ Wrong → given ≡ None

-- Ok gives what `clap` finds in words without a fault, and Wrong comes only of words with one
abbrev pub AreMatches : App → List Text → Result ArgMatches Refusal → Type 0
AreMatches app words (Ok m) =
    (fault_of app words ≡ []) × (rows_of (found_of m) ≡ matches_of app words)
AreMatches app words (Err refusal) = refusal ≡ Wrong → fault_of app words ≢ []

-- Ok gives what is found in words that are read, and Wrong comes only of words that aren't
abbrev pub AreMatchesOf : App → List Text → Result ArgMatches Refusal → Type 0
AreMatchesOf app words (Ok m) = rows_read app words ≡ Some (rows_of (found_of m))
AreMatchesOf app words (Err refusal) = refusal ≡ Wrong → rows_read app words ≡ None
