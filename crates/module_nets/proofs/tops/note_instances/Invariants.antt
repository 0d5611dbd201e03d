use Rattle.std.proofs.Common.{ℕ, List, map, take}
use Rattle.module_nets.specs.Tables.{holds, seen_behind, HasNames}
use Rattle.module_nets.proofs.tops.note_instances.Given as goal

abbrev pub invariant-loop-instance : goal.invariant-loop-instance
invariant-loop-instance l = (seen : List (List ℕ)) → HasNames seen (holds l.fn.names) → HasNames (seen_behind seen (map (λ i. i.«module») (take l.instance-index l.instances))) (holds l.names)
