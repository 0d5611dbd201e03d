use Rattle.std.proofs.Common.{◌≡◌, ◌≤◌, ◌+◌, drop}
use Rattle.bud_gen.specs.Gates.{registers_of}
use Rattle.bud_gen.proofs.gates.registers_of.Given as goal

abbrev pub invariant-loop-gate : goal.invariant-loop-gate
invariant-loop-gate l = (registers_of l.gates ≡ l.count + registers_of (drop l.gate-index l.gates)) × (l.count ≤ l.gate-index)
