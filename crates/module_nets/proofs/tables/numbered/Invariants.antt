use Rattle.std.proofs.Common.{take}
use Rattle.module_nets.specs.Tables.{known, IsNumbered}
use Rattle.module_nets.proofs.tables.numbered.Given as goal

-- the names so far are numbered
abbrev pub invariant-loop-place : goal.invariant-loop-place
invariant-loop-place g l = IsNumbered g.T.Declared.name_of (take l.place l.items) (known l.table)
