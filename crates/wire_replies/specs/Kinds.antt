-- The three answers.
use Rattle.std.specs.Prelude.{codes, if◌then◌else◌, is_some, ⊤}
use Rattle.serde_json.specs.Data.{Data}
use Rattle.serde_json.specs.Find.{get}
use Rattle.wire_types.specs.declared.reply.WireReply.{WireReply}
use Rattle.wire_types.specs.declared.reply.WireReply.TheVariants.{Change, NoMessage, NoPage, Page, Refused, Version, VersionMoved}
use Rattle.wire_replies.specs.declared.body.Answer.{Answer}
use Rattle.wire_replies.specs.declared.body.Answer.TheVariants as answer

abbrev pub IsVersion : WireReply → Type 0
IsVersion (Version first last) = ⊤
IsVersion (Change n items) = ⊥
IsVersion (Page version n last rows) = ⊥
IsVersion NoMessage = ⊥
IsVersion VersionMoved = ⊥
IsVersion NoPage = ⊥
IsVersion Refused = ⊥

abbrev pub IsChange : WireReply → Type 0
IsChange (Version first last) = ⊥
IsChange (Change n items) = ⊤
IsChange (Page version n last rows) = ⊥
IsChange NoMessage = ⊥
IsChange VersionMoved = ⊥
IsChange NoPage = ⊥
IsChange Refused = ⊥

abbrev pub IsPage : WireReply → Type 0
IsPage (Version first last) = ⊥
IsPage (Change n items) = ⊥
IsPage (Page version n last rows) = ⊤
IsPage NoMessage = ⊥
IsPage VersionMoved = ⊥
IsPage NoPage = ⊥
IsPage Refused = ⊥

abbrev pub IsOf : Answer → WireReply → Type 0
IsOf answer.Version r = IsVersion r
IsOf answer.Change r = IsChange r
IsOf answer.Page r = IsPage r

-- which answer a value could be, by its member
abbrev pub answer_in : Data → Answer
answer_in v =
    if is_some (get (codes "version") v) then answer.Version
    else (if is_some (get (codes "change") v) then answer.Change else answer.Page)
