use Rattle.std.proofs.Common.{◌≡◌, ◌++◌, drop}
use Rattle.bud_gen.specs.DelayFiles.{gate_cells}
use Rattle.bud_gen.proofs.delays.put_gates.Given as goal

abbrev pub invariant-loop-gate : goal.invariant-loop-gate
invariant-loop-gate l = l.fn.out.items ++ gate_cells l.k l.gates ≡ l.out.items ++ gate_cells l.k (drop l.gate-index l.gates)
