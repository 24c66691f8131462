mod AskLemmas
mod RoundLemmas
mod RunLemmas
