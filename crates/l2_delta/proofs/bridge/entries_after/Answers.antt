use Rattle.l2_delta.proofs.bridge.entries_after.Goals as goal

pub entries-requires : goal.entries-requires
entries-requires c = c.args.change.now.leads_on.stays_consistent
