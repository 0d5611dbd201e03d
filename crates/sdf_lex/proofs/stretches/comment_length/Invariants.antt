use Rattle.std.proofs.Common.{◌≡◌, ◌-◌, ◌≤◌, length, drop}
use Rattle.sdf_lex.specs.Words.{comment_length, further}
use Rattle.sdf_lex.proofs.stretches.comment_length.Given as goal

-- the comment goes on behind what is passed
abbrev pub invariant-loop-place : goal.invariant-loop-place
invariant-loop-place l = record {
  same : comment_length l.bytes ≡ further l.place (comment_length (drop l.place l.bytes));
  within : l.place ≤ length l.bytes;
}

abbrev pub decreases-loop-place : goal.decreases-loop-place
decreases-loop-place l = length l.bytes - l.place
