use Rattle.std.proofs.Common.{ℕ, List, map, take, drop}
use Rattle.module_nets.specs.Tables.{holds, HasNames}
use Rattle.module_nets.proofs.TableSteps.{AreNoted}
use Rattle.module_nets.proofs.tables.first_again.Given as goal

-- the names so far are new
abbrev pub invariant-loop-item : goal.invariant-loop-item
invariant-loop-item g l = (seen : List (List ℕ)) → HasNames seen (holds l.fn.names)
    → AreNoted seen (map g.T.Declared.name_of (take l.item-index l.items)) (map g.T.Declared.name_of (drop l.item-index l.items)) (holds l.names)
