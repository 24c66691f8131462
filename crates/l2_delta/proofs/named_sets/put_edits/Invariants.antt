use Rattle.std.proofs.Common.{◌≡◌, ℕ, drop, false}
use Rattle.std.specs.Prelude.{nat_lt}
use Rattle.table_edits.specs.EditsAt.{among}
use Rattle.l2_delta.specs.SetKeys.{is_remote, with_remotes}
use Rattle.l2_delta.specs.TouchedSets.{AreNamedAlike}
use Rattle.l2_delta.proofs.named_sets.put_edits.Given as goal

-- the edits that are left lead to all remote groups, and a group whose number isn't there yet is
-- named as before
abbrev pub invariant-loop-edit : goal.invariant-loop-edit
invariant-loop-edit l = record {
  remotes : with_remotes l.remotes (drop l.edit-index l.edits) ≡ with_remotes l.fn.remotes l.edits;
  fewer : (n : ℕ) → among nat_lt n l.numbers.items ≡ false → among nat_lt n l.fn.numbers.items ≡ false;
  alike : AreNamedAlike l.groups.rows l.numbers.items (is_remote l.fn.remotes) (is_remote l.remotes);
}
