use Rattle.std.proofs.Common.{◌≡◌, ◌++◌, drop}
use Rattle.budget_report.specs.DesignFaults.{pair_lines}
use Rattle.budget_report.proofs.designs.put_pairs.Given as goal

abbrev pub invariant-loop-pair : goal.invariant-loop-pair
invariant-loop-pair l = l.fn.out.items ++ pair_lines l.flat l.pairs ≡ l.out.items ++ pair_lines l.flat (drop l.pair-index l.pairs)
