use Rattle.registers.specs.Tables.{IsThinned}
use Rattle.registers.proofs.tables.last_of_each.Given as goal

abbrev pub invariant-loop-place : goal.invariant-loop-place
invariant-loop-place l = IsThinned l.values l.place l.kept.items
