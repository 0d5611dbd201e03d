use Rattle.std.proofs.Common.{◌≡◌, ◌≤◌, length}
use Rattle.verilog_reader.specs.Sources.{behind_word}
use Rattle.verilog_reader.proofs.sources.behind_word.Given as goal

-- what is left behind the word is left behind it from here on
abbrev pub invariant-loop-word : goal.invariant-loop-word
invariant-loop-word l = record {
  text : l.rest.text.now ≡ l.fn.left.text.now;
  leaf : l.rest.leaf ≡ l.fn.left.leaf;
  breach : l.rest.breach ≡ l.fn.left.breach;
  same : behind_word l.fn.left.text.now l.expected l.rest.tokens.now ≡ behind_word l.fn.left.text.now l.expected l.fn.left.tokens.now;
  order : length l.rest.tokens.now ≤ length l.fn.left.tokens.now;
}

abbrev pub decreases-loop-word : goal.decreases-loop-word
decreases-loop-word l = length l.rest.tokens.now
