use Rattle.net_settings.proofs.TextLemmas.{list_of-items_of}
use Rattle.net_settings.proofs.texts.values_of.Goals as goal

pub returns-in-Some : goal.returns-in-Some
returns-in-Some c = rw (← c.in-Some.ensures, list_of-items_of, c.as_slice.ensures.value)
