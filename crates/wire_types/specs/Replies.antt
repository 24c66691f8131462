-- What a server replies to an agent.
use Rattle.std.specs.Prelude.{◌≡◌, ◌⊎◌, ◌==◌, ℕ, ◌++◌, List, Option, Some, None, if◌then◌else◌}
use Rattle.net_addr.specs.Words.{Version}
use Rattle.api_types.specs.RowLists.{RowLists}
use Rattle.api_types.specs.declared.change.Item.{Item}
use Rattle.api_types.specs.declared.page.PageRow.{PageRow}
use Rattle.bus_core.specs.History.{History, change_at, first_kept}
use Rattle.wire_types.specs.Changes.{history_of}
use Rattle.wire_types.specs.Pages.{all_rows, is_last_page, is_page, page}
use Rattle.wire_types.specs.declared.ask.WireAsk.{WireAsk}
use Rattle.wire_types.specs.declared.ask.WireAsk.TheVariants as ask
use Rattle.wire_types.specs.declared.reply.WireReply.{WireReply}
use Rattle.wire_types.specs.declared.reply.WireReply.TheVariants as reply

-- the most bytes of a reply's body
abbrev pub body_limit : ℕ
body_limit = 67108864

abbrev pub change_reply : Version → Option (List Item) → WireReply
change_reply number None = reply.NoMessage
change_reply number (Some c) = reply.Change number c

abbrev pub page_reply : Version → ℕ → List PageRow → WireReply
page_reply version number rows =
    if is_page number rows
    then reply.Page version number (is_last_page number rows) (page number rows)
    else reply.NoPage

-- what a server replies that has this history
abbrev pub reply_with : History → WireAsk → WireReply
reply_with h ask.Version = reply.Version (first_kept h) h.version
reply_with h (ask.Page version number) =
    if version == h.version then page_reply version number (all_rows h.rows)
    else reply.VersionMoved
reply_with h (ask.Change number) = change_reply number (change_at h number)

-- a server that accepts these changes replied so at some moment, or refused for another reason
pub record IsReplyOf (opening : RowLists) (changes : List (List Item)) (r : WireReply)
    : Type 0 where
  pub earlier : List (List Item)
  pub later : List (List Item)
  pub moment : changes ≡ earlier ++ later
  pub question : WireAsk
  pub given : (r ≡ reply_with (history_of opening earlier) question) ⊎ (r ≡ reply.Refused)
