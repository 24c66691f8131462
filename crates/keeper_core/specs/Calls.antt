-- Calls that are counted from 1, some of which fail.
use Rattle.std.specs.Prelude.{Bool, if◌then◌else◌, nat_eq}
use Rattle.std.specs.List.{list_any}
use Rattle.keeper_core.specs.Counts.{raised}
use Rattle.keeper_core.specs.declared.calls.Calls.{Calls}

-- the next call's number is listed
abbrev pub fails_next : Calls → Bool
fails_next calls = list_any (λ n. nat_eq n (raised calls.made)) calls.failing

-- the calls after the next one
abbrev pub counted : Calls → Calls
counted calls = record {
  made = raised calls.made;
  failing = calls.failing;
  faults = if fails_next calls then raised calls.faults else calls.faults;
}
