-- What an audit writes: a line for each table.
use Rattle.std.specs.Prelude.{[], ◌∷◌, ◌++◌, Bool, true, false, List, Option, Some, None, codes}
use Rattle.net_addr.specs.Words.{Bytes, Text}
use Rattle.plane_types.specs.declared.event.Event.{Event}
use Rattle.reach_audit.specs.EventBodies.{event_body}
use Rattle.reach_sets.specs.declared.judgement.Judgement.{Judgement}
use Rattle.reach_sets.specs.declared.judgement.Judgement.TheVariants.{Broken, Held}
use Rattle.wanted_files.specs.declared.wanted.WantedReach.{WantedReach}

-- its end is a line feed
abbrev pub line_feed : Bytes
line_feed = 10 ∷ []

abbrev pub held_line : Text → Bytes
held_line name = codes "ok " ++ name ++ line_feed

-- the event that shows it, or that there is none
abbrev pub shown_text : Option Event → Bytes
shown_text None = codes "none"
shown_text (Some e) = event_body e

abbrev pub broken_line : Text → Option Event → Bytes
broken_line name event = codes "fail " ++ name ++ codes " " ++ shown_text event ++ line_feed

abbrev pub line_of : Text → Judgement → Bytes
line_of name Held = held_line name
line_of name (Broken event) = broken_line name event

-- table by table
abbrev pub lines_of : List WantedReach → List Judgement → Bytes
lines_of [] judged = []
lines_of (w ∷ wanted) [] = []
lines_of (w ∷ wanted) (j ∷ judged) = line_of w.name j ++ lines_of wanted judged

-- whether a table holds
abbrev pub holds : Judgement → Bool
holds Held = true
holds (Broken event) = false
