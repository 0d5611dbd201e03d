use Rattle.std.proofs.Common.{length, drop, ◌-◌}
use Rattle.verilog_lex.specs.Progress.{IsKnown, IsSoFar}
use Rattle.verilog_lex.proofs.lexer.find_tokens.Given as goal

abbrev pub invariant-loop-first : goal.invariant-loop-first
invariant-loop-first l = record {
  so_far : IsSoFar l.text l.found.items l.at;
  known : IsKnown l.printable (drop l.at l.text);
}

abbrev pub decreases-loop-first : goal.decreases-loop-first
decreases-loop-first l = length l.text - l.at
