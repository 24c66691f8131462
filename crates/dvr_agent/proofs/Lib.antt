mod NamedLemmas
mod NoTags
mod NumberLemmas
