use Rattle.std.proofs.Common.{◌≡◌, ◌<◌, ◌≤◌}
use Rattle.bud_design.specs.Clocks.{common_divisor}
use Rattle.path_requirements.proofs.relations.common_divisor.Given as goal

abbrev pub invariant-loop-rest : goal.invariant-loop-rest
invariant-loop-rest l = (common_divisor l.fn.first l.fn.second ≡ common_divisor l.divisor l.rest) × (0 < l.divisor) × (l.divisor ≤ 1000000000) × (l.rest ≤ 1000000000)

abbrev pub decreases-loop-rest : goal.decreases-loop-rest
decreases-loop-rest l = l.rest
