-- Why rows aren't put into service.
use Rattle.std.specs.Prelude.{◌≡◌, None, Option, Some}
use Rattle.api_check.specs.declared.broken.Inconsistent.{Inconsistent as Broken}
use Rattle.lab_world.specs.declared.opening.OpenRefusal.{OpenRefusal}
use Rattle.lab_world.specs.declared.opening.OpenRefusal.TheVariants.{Inconsistent, OutOfMemory}

abbrev pub refusal_of : Broken → OpenRefusal
refusal_of broken = Inconsistent broken.rule broken.kind broken.id

-- the first clause that they break, with the row that breaks it; or they break none, and memory
-- could not be had
abbrev pub IsOpenRefusal : Option Broken → OpenRefusal → Type 0
IsOpenRefusal broken (Inconsistent rule kind id) =
    broken ≡ Some (record { rule = rule; kind = kind; id = id })
IsOpenRefusal broken OutOfMemory = broken ≡ None
