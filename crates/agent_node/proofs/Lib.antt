pub mod PutLemmas
pub mod MadeTables
pub mod NoFew
pub mod StillRows
pub mod StillTables
