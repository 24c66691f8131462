use Rattle.table_edits.proofs.TableLaws.{leases_lead}
use Rattle.table_edits.proofs.table_laws.leases_are_rewired.Goals as goal

pub returns : goal.returns
returns c = λ rows items host old new ks es down stay networks serving leased are.
    leases_lead rows items host old new ks es (record { down = down; stay = stay; networks = networks }) serving leased are
