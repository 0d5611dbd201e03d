use Rattle.std.proofs.Common.{◌≡◌, ◌+◌, ◌*◌, ◌≤◌, length, drop}
use Rattle.module_nets.specs.Nets.{expression_bits}
use Rattle.module_nets.proofs.nets.NetTable.width.Given as goal

abbrev pub invariant-loop-k : goal.invariant-loop-k
invariant-loop-k l = record {
  whole : length (expression_bits l.self.«module».now l.pieces) ≡ l.width + length (expression_bits l.self.«module».now (drop l.k l.pieces));
  most : l.width ≤ l.k * 4294967296;
}
