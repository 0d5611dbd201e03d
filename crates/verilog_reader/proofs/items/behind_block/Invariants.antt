use Rattle.std.proofs.Common.{◌≡◌, ◌≤◌, length}
use Rattle.verilog_reader.specs.Items.{behind_block}
use Rattle.verilog_reader.proofs.items.behind_block.Given as goal

-- what is left behind the block is left behind it from here on
abbrev pub invariant-loop-word : goal.invariant-loop-word
invariant-loop-word l = record {
  text : l.rest.text.now ≡ l.fn.left.text.now;
  leaf : l.rest.leaf ≡ l.fn.left.leaf;
  breach : l.rest.breach ≡ l.fn.left.breach;
  same : behind_block l.fn.left.text.now l.title l.rest.tokens.now ≡ behind_block l.fn.left.text.now l.title l.fn.left.tokens.now;
  order : length l.rest.tokens.now ≤ length l.fn.left.tokens.now;
}

abbrev pub decreases-loop-word : goal.decreases-loop-word
decreases-loop-word l = length l.rest.tokens.now
