mod HearLemmas
mod PhaseLemmas
mod SaidLemmas
mod SnapshotLemmas
