-- What the choice of a network's segment comes to: it is refused where another network has the
-- segment that is asked for, and otherwise where there is none to choose.
use Rattle.std.specs.Prelude.{◌≡◌, ◌⊎◌, Err, List, None, Ok, Option, Result, Some, option_and_then}
use Rattle.api_types.specs.declared.network.NetworkRow.{NetworkRow}
use Rattle.api_types.specs.declared.network.Segment.{Segment}
use Rattle.net_settings.specs.Settings.{SettingsParts}
use Rattle.api_ml2.specs.Segments.{chosen_segment, network_with}
use Rattle.api_ml2.specs.declared.segments.SegmentRefusal.{SegmentRefusal}
use Rattle.api_ml2.specs.declared.segments.SegmentRefusal.TheVariants.{OutOfMemory, SegmentInUse, SegmentsSpent}

abbrev pub picked_by : Option NetworkRow → Option Segment → Result Segment SegmentRefusal
picked_by (Some n) chosen = Err (SegmentInUse n.id)
picked_by None None = Err SegmentsSpent
picked_by None (Some segment) = Ok segment

abbrev pub picked : SettingsParts → List NetworkRow → Option Segment
    → Result Segment SegmentRefusal
picked settings networks asked =
    picked_by (option_and_then (network_with networks) asked)
    (chosen_segment settings networks asked)

-- the refusal is the choice's, or memory could not be had
abbrev pub IsRefusalOf : Result Segment SegmentRefusal → SegmentRefusal → Type 0
IsRefusalOf choice refusal = (refusal ≡ OutOfMemory) ⊎ (choice ≡ Err refusal)
