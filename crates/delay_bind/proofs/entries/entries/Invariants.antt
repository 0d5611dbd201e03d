use Rattle.delay_bind.specs.Binding.{entries_in, AreReadTo}
use Rattle.delay_bind.proofs.entries.entries.Given as goal

abbrev pub invariant-loop-row : goal.invariant-loop-row
invariant-loop-row l = AreReadTo l.flat l.rows l.row-index (entries_in l.lists)
