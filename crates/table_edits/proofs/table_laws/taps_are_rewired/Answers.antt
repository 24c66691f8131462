use Rattle.table_edits.proofs.TableLaws.{taps_lead}
use Rattle.table_edits.proofs.table_laws.taps_are_rewired.Goals as goal

pub returns : goal.returns
returns c = λ rows items host old new ks es down stay networks are.
    taps_lead rows items host old new ks es (record { down = down; stay = stay; networks = networks }) are
