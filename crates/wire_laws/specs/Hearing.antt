-- What an agent behind a wire makes of each reply.
use Rattle.std.specs.Prelude.{◌≡◌, ◌⊎◌, ◌==◌, ◌+◌, ℕ, suc, ◌++◌, ◌&&◌, ◌||◌, nat_le, Bool, true, false, List, [], ◌∷◌, Option, Some, None, if◌then◌else◌}
use Rattle.net_addr.specs.Words.{Text, Version}
use Rattle.api_types.specs.RowLists.{RowLists}
use Rattle.api_types.specs.Rows.{Fits, after}
use Rattle.api_types.specs.declared.change.Item.{Item}
use Rattle.api_types.specs.declared.page.PageRow.{PageRow}
use Rattle.net_settings.specs.Settings.{SettingsParts}
use Rattle.plane_types.specs.Node.{Agent, after_resync, first_agent}
use Rattle.world_laws.specs.World.{AreSound}
use Rattle.wire_types.specs.Pages.{rows_from}
use Rattle.wire_types.specs.declared.reply.WireReply.{WireReply}
use Rattle.wire_types.specs.declared.reply.WireReply.TheVariants as reply
use Rattle.wire_types.specs.declared.step.WireStep.{WireStep}
use Rattle.wire_types.specs.declared.step.WireStep.TheVariants as step
use Rattle.wire_laws.specs.WireStates.{WireState, Lost, Check, Draft, Held, agent_of, last_number}

-- what a reply leads to
pub data Move : Type 0 where
  To : WireStep → WireState → Move
  -- these rows of a version are put in place
  PutRows : Version → List PageRow → Move
  -- this change is put into what is held
  PutChange : Agent → List Item → Move

-- whether what is held is followed by a kept change, or is not older than the server's rows
abbrev pub can_follow : Version → Version → Version → Bool
can_follow version first last = nat_le last version || nat_le first (version + 1)

abbrev pub without_draft : Option Agent → WireState
without_draft None = Lost
without_draft (Some a) = Check a

abbrev pub after_page : Option Agent → Version → ℕ → Bool → List PageRow → WireState → Move
after_page a version number true rows old = PutRows version rows
after_page a version number false rows old =
    if number == last_number then To step.Again old
    else To step.Page (Draft a version (suc number) rows)

abbrev pub move_of : WireState → WireReply → Move
move_of Lost (reply.Version first last) = To (step.Anew last) (Draft None last 0 [])
move_of (Check a) (reply.Version first last) =
    if can_follow a.version first last then To step.Same (Held a)
    else To (step.Anew last) (Draft (Some a) last 0 [])
move_of (Draft a version number rows) (reply.Page of_version of_number is_last more) =
    if (of_version == version) && (of_number == number)
    then after_page a version number is_last (rows ++ more) (Draft a version number rows)
    else To step.Again (Draft a version number rows)
move_of (Draft a version number rows) reply.VersionMoved = To step.Restarted (without_draft a)
move_of (Draft a version number rows) reply.NoPage = To step.Restarted (without_draft a)
move_of (Held a) (reply.Change number c) =
    if number == a.version + 1 then PutChange a c else To step.Again (Held a)
move_of (Held a) reply.NoMessage = To step.Asked (Check a)
move_of state r = To step.Again state

-- rows are put in place where nothing was held before, or of what was
abbrev pub agent_with : Text → Version → RowLists → Option Agent → Agent
agent_with name version rows None = first_agent rows version name
agent_with name version rows (Some a) = after_resync version rows a

-- what is good is taken, otherwise the state is as before
abbrev pub Takes : Type 0 → Agent → WireState → WireStep → WireState → Type 0
Takes Good new old s state =
    (Good × (s ≡ step.Took new.version) × (state ≡ Held new))
    ⊎ ((Good → ⊥) × (s ≡ step.BadRows) × (state ≡ old))

abbrev pub Makes : SettingsParts → Text → WireState → Move → WireStep → WireState → Type 0
Makes settings name old (To made next) s state = (s ≡ made) × (state ≡ next)
Makes settings name old (PutRows version rows) s state =
    Takes (AreSound settings (rows_from rows))
    (agent_with name version (rows_from rows) (agent_of old)) old s state
Makes settings name old (PutChange a c) s state =
    Takes (Fits a.rows c × AreSound settings (after a.rows c))
    (after_resync (a.version + 1) (after a.rows c) a) old s state

-- the agent of the host with this name hears a reply
abbrev pub Hears : SettingsParts → Text → WireState → WireReply → WireStep → WireState → Type 0
Hears settings name old r s state = Makes settings name old (move_of old r) s state

-- one reply after the other
unfoldable pub HearsAll : SettingsParts → Text → WireState → List WireReply → List WireStep
    → WireState → Type 0
HearsAll settings name old [] steps state = (steps ≡ []) × (state ≡ old)
HearsAll settings name old (r ∷ replies) steps state =
    (s : WireStep) × (next : WireState) × (rest : List WireStep)
    × (steps ≡ s ∷ rest) × Hears settings name old r s next
    × HearsAll settings name next replies rest state
