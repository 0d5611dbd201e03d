use Rattle.std.proofs.Common.{◌≡◌, ◌++◌, drop}
use Rattle.bud_gen.specs.Netlists.{gate_lines}
use Rattle.bud_gen.proofs.netlists.put_gates.Given as goal

abbrev pub invariant-loop-gate : goal.invariant-loop-gate
invariant-loop-gate l = l.fn.out.items ++ gate_lines l.gates ≡ l.out.items ++ gate_lines (drop l.gate-index l.gates)
