use Rattle.std.proofs.Common.{◌≡◌, ◌++◌, drop}
use Rattle.bud_gen.specs.Policies.{arc_lines}
use Rattle.bud_gen.proofs.policies.put_gates.Given as goal

abbrev pub invariant-loop-gate : goal.invariant-loop-gate
invariant-loop-gate l = l.fn.out.items ++ arc_lines l.k l.gates ≡ l.out.items ++ arc_lines l.k (drop l.gate-index l.gates)
