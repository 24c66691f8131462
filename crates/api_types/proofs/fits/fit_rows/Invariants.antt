use Rattle.std.proofs.Common.{take}
use Rattle.api_types.specs.Rows.{Fits}
use Rattle.api_types.proofs.fits.fit_rows.Given as goal

-- the items so far fit the rows
abbrev pub invariant-loop-place : goal.invariant-loop-place
invariant-loop-place l = Fits l.rows (take l.place l.items)
