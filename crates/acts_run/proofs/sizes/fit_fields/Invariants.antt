use Rattle.std.proofs.Common.{take}
use Rattle.std.specs.List.{AllByRecursion}
use Rattle.row_format.specs.Allowed.{FitsFields}
use Rattle.acts_run.proofs.sizes.fit_fields.Given as goal

-- so it is of those before
abbrev pub invariant-loop-entry : goal.invariant-loop-entry
invariant-loop-entry l = AllByRecursion FitsFields (take l.entry-index l.entries)
