use Rattle.std.proofs.Common.{◌≡◌, ◌+◌, ◌-◌, ◌≤◌, length, drop}
use Rattle.sdf_lex.specs.Words.{string_length, further}
use Rattle.sdf_lex.proofs.stretches.string_length.Given as goal

-- the string goes on behind what is passed
abbrev pub invariant-loop-place : goal.invariant-loop-place
invariant-loop-place l = record {
  same : string_length l.bytes ≡ further l.place (string_length (drop l.place l.bytes));
  within : l.place ≤ length l.bytes + 1;
}

abbrev pub decreases-loop-place : goal.decreases-loop-place
decreases-loop-place l = length l.bytes - l.place
