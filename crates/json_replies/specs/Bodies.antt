-- What each reply prints (OpenStack API reference, Networking API v2.0; the lab's replies are this
-- server's own).
use Rattle.std.specs.Prelude.{List, [], ◌∷◌, map, codes, Option, Some, None}
use Rattle.net_addr.specs.Words.{Bytes, Text}
use Rattle.api_types.specs.Printed.{Tree, number, word, ShownRow, OneRow, ManyRows, NewRow, NoRow, InterfaceRow, reply_of}
use Rattle.api_types.specs.Printed as answered
use Rattle.api_types.specs.declared.refusal.Refusal.{Refusal}
use Rattle.neutron_http.specs.Faults.{type_of, message_of}
use Rattle.api_types.specs.Titles.{collection_of, resource_of}
use Rattle.plane_types.specs.declared.ask.HostState.{HostState}
use Rattle.plane_types.specs.declared.ask.LabAnswer.{LabAnswer}
use Rattle.plane_types.specs.declared.ask.LabAnswer.TheVariants.{Seen, Told, Hosts, Tables, Version, Change, Page}
use Rattle.plane_types.specs.declared.ask.Reply.{Reply}
use Rattle.plane_types.specs.declared.ask.Reply.TheVariants.{Done, LabDone, Refused}
use Rattle.plane_types.specs.declared.verdict.Verdict.{Verdict}
use Rattle.json_trees.specs.Printed.{fields, list, only, or_null, body_text}
use Rattle.wire_text.specs.Told.{numbered_change_tree, page_tree, version_tree}
use Rattle.json_replies.specs.Verdicts.{verdict_tree, heard_tree}
use Rattle.json_replies.specs.Tables.{tables_tree}

abbrev pub row_tree : ShownRow → Tree
row_tree row = fields row.members

-- one row is an object with the one member named for its kind, and rows are one with the plural
-- member; an interface is a plain object, and a deletion has no body
abbrev pub answer_tree : answered.Reply → Option Tree
answer_tree (OneRow row) = Some (only (resource_of row.kind) (row_tree row))
answer_tree (ManyRows kind rows) = Some (only (collection_of kind) (list (map row_tree rows)))
answer_tree (NewRow row) = Some (only (resource_of row.kind) (row_tree row))
answer_tree NoRow = None
answer_tree (InterfaceRow row) = Some (row_tree row)

abbrev pub host_tree : HostState → Tree
host_tree host =
    fields ((codes "held", or_null number host.held) ∷ (codes "name", word host.name) ∷ [])

-- a verdict, with the hosts that handled its event
abbrev pub handled_tree : List Text → Verdict → Tree
handled_tree hosts verdict =
    fields ((codes "hosts", list (map word hosts)) ∷ (codes "verdict", verdict_tree verdict) ∷ [])

abbrev pub lab_tree : LabAnswer → Tree
lab_tree (Seen verdict) = only (codes "verdict") (verdict_tree verdict)
lab_tree (Told heard) = only (codes "heard") (heard_tree heard)
lab_tree (Hosts hosts) = only (codes "hosts") (list (map host_tree hosts))
lab_tree (Tables tables) = only (codes "tables") (tables_tree tables)
lab_tree (Version first last) = only (codes "version") (version_tree first last)
lab_tree (Change n items) = only (codes "change") (numbered_change_tree n items)
lab_tree (Page version n last rows) = only (codes "page") (page_tree version n last rows)

-- what a refusal says
abbrev pub words_tree : Text → Text → Tree
words_tree kind message = fields (
    (codes "detail", word []) ∷ (codes "message", word message) ∷ (codes "type", word kind) ∷ [])

abbrev pub fault_tree : Refusal → Tree
fault_tree refusal =
    only (codes "NeutronError") (words_tree (type_of refusal) (message_of refusal))

abbrev pub reply_tree : Reply → Option Tree
reply_tree (Done answer) = answer_tree (reply_of answer)
reply_tree (LabDone answer) = Some (lab_tree answer)
reply_tree (Refused refusal) = Some (fault_tree refusal)

-- the body of a reply
abbrev pub body_of : Reply → Bytes
body_of reply = body_text (reply_tree reply)
