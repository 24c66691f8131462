use Rattle.l2_delta.proofs.bridge.keys_before.Goals as goal

pub entries-requires : goal.entries-requires
entries-requires c = c.args.change.now.leads_on.consistent
