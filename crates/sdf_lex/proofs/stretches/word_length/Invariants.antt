use Rattle.std.proofs.Common.{◌≡◌, ◌+◌, ◌-◌, ◌≤◌, length, drop}
use Rattle.sdf_lex.specs.Words.{word_length}
use Rattle.sdf_lex.proofs.stretches.word_length.Given as goal

-- the word goes on behind what is passed
abbrev pub invariant-loop-place : goal.invariant-loop-place
invariant-loop-place l = record {
  same : word_length l.bytes ≡ l.place + word_length (drop l.place l.bytes);
  within : l.place ≤ length l.bytes;
}

abbrev pub decreases-loop-place : goal.decreases-loop-place
decreases-loop-place l = length l.bytes - l.place
