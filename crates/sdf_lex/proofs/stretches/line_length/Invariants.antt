use Rattle.std.proofs.Common.{◌≡◌, ◌+◌, ◌-◌, ◌≤◌, length, drop}
use Rattle.sdf_lex.specs.Words.{line_length}
use Rattle.sdf_lex.proofs.stretches.line_length.Given as goal

-- the line goes on behind what is passed
abbrev pub invariant-loop-place : goal.invariant-loop-place
invariant-loop-place l = record {
  same : line_length l.bytes ≡ l.place + line_length (drop l.place l.bytes);
  within : l.place ≤ length l.bytes;
}

abbrev pub decreases-loop-place : goal.decreases-loop-place
decreases-loop-place l = length l.bytes - l.place
