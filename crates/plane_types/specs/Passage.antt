-- How a packet passes the filter of a port: by a rule, or as the answer to a packet that passed
-- the other way by a rule that still stands (Networking API v2.0: security groups are stateful).
use Rattle.std.specs.Prelude.{not, ◌&&◌, Bool, true, List, [], ◌∷◌, if◌then◌else◌}
use Rattle.api_types.specs.Ident.{Ident}
use Rattle.api_types.specs.declared.group.Direction.{Direction}
use Rattle.plane_types.specs.Entries.{has_flow, opposite}
use Rattle.plane_types.specs.Keys.{answer_key}
use Rattle.plane_types.specs.declared.entry.Entry.{Entry}
use Rattle.plane_types.specs.declared.entry.Entry.TheVariants.{Flow}
use Rattle.plane_types.specs.declared.frame.Key.{Key}

-- whether a packet passes, and the flow that it makes
pub record Passage : Type 0 where
  pub passes : Bool
  pub made : List Entry

-- a flow is new unless an equal one is there
abbrev pub new_flow : List Entry → Ident → Direction → Key → List Entry
new_flow entries port direction key =
    if has_flow entries port direction key then [] else Flow port direction key ∷ []

-- of a port that is secured or not, whose rules allow a key in a direction or not
abbrev pub passage : Bool → (Direction → Key → Bool) → List Entry → Ident → Direction → Key
    → Passage
passage secured allows entries port direction key =
    if not secured then record { passes = true; made = [] }
    else if allows direction key
    then record { passes = true; made = new_flow entries port direction key }
    else record {
      passes = has_flow entries port (opposite direction) (answer_key key)
          && allows (opposite direction) (answer_key key);
      made = [];
    }
