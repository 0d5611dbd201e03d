use Rattle.std.proofs.Common.{◌≡◌, ◌≤◌, length}
use Rattle.verilog_reader.specs.Constants.{behind_digits}
use Rattle.verilog_reader.proofs.constants.behind_digits.Given as goal

-- what is left behind all digits is left behind those that are left
abbrev pub invariant-loop-word : goal.invariant-loop-word
invariant-loop-word l = record {
  text : l.rest.text.now ≡ l.fn.left.text.now;
  leaf : l.rest.leaf ≡ l.fn.left.leaf;
  breach : l.rest.breach ≡ l.fn.left.breach;
  same : behind_digits l.radix l.fn.left.text.now l.end l.rest.tokens.now ≡ behind_digits l.radix l.fn.left.text.now l.fn.end l.fn.left.tokens.now;
  order : length l.rest.tokens.now ≤ length l.fn.left.tokens.now;
}

abbrev pub decreases-loop-word : goal.decreases-loop-word
decreases-loop-word l = length l.rest.tokens.now
