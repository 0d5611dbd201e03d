use Rattle.std.proofs.Common.{ℕ, ◌<◌}
use Rattle.bud_base.specs.Markings.{IsMarked}
use Rattle.bud_base.proofs.liveness.first_unmarked.Given as goal

abbrev pub invariant-loop-n : goal.invariant-loop-n
invariant-loop-n l = (m : ℕ) → m < l.n → IsMarked l.marks m × IsMarked l.others m
