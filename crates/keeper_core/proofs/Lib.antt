mod DeskLemmas
mod FreshLemmas
mod NamedLemmas
mod PieceLemmas
