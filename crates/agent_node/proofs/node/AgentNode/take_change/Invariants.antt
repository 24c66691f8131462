use Rattle.agent_node.proofs.node.AgentNode.take_change.Given as goal

-- the ledger is that of the blank
abbrev pub ghosts-rewire_in : goal.ghosts-rewire_in
ghosts-rewire_in a = record { name = a.blank.name; parts = a.blank.parts }
