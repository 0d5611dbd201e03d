use Rattle.std.proofs.Common.{◌≡◌, ◌+◌, ◌-◌, ◌≤◌, length, drop}
use Rattle.std.specs.Option.{option_map}
use Rattle.verilog_lex.specs.Fronts.{before_pair}
use Rattle.verilog_lex.proofs.fronts.before_pair.Given as goal

abbrev pub invariant-loop-at : goal.invariant-loop-at
invariant-loop-at l = record {
  rest : before_pair l.first l.second l.bytes ≡ option_map (λ n. n + l.at) (before_pair l.first l.second (drop l.at l.bytes));
  within : l.at ≤ length l.bytes;
}

abbrev pub decreases-loop-at : goal.decreases-loop-at
decreases-loop-at l = length l.bytes - l.at
