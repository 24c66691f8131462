mod FreeLemmas
mod IndexLemmas
mod RuledLemmas
