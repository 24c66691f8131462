-- What links in memory hold, and that they tell all of it.
use Rattle.std.specs.Prelude.{List, Option, Some}
use Rattle.net_addr.specs.Words.{Text}
use Rattle.keeper_core.specs.Ends.{FailingUnread, FailingWritten}
use Rattle.keeper_core.specs.declared.calls.Calls.{Calls}
use Rattle.agent_links.specs.Links.{EndedLink, LinkTold, ended_link}
use Rattle.agent_links.specs.declared.memory_link.DoneLink.{DoneLink}

-- the two ends of a link in memory
abbrev pub MemoryEnds : Type 0
MemoryEnds = FailingUnread × FailingWritten

abbrev pub ended_of : DoneLink → EndedLink MemoryEnds
ended_of link = ended_link link.address (link.input, link.output)

pub record MemoryLinks : Type 0 where
  pub to_come : List MemoryEnds
  pub ended : List (EndedLink MemoryEnds)
  pub opened : Option Text
  pub calls : Calls

abbrev pub links_told : MemoryLinks → LinkTold MemoryEnds
links_told links = record {
  to_come = Some links.to_come;
  ended = Some links.ended;
  opened = links.opened;
  faults = links.calls.faults;
}
