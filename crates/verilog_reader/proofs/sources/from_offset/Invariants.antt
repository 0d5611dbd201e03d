use Rattle.std.proofs.Common.{◌≡◌, ◌≤◌, length}
use Rattle.verilog_reader.specs.Sources.{from_offset}
use Rattle.verilog_reader.proofs.sources.from_offset.Given as goal

-- the tokens from the offset on are those of what is left
abbrev pub invariant-loop-word : goal.invariant-loop-word
invariant-loop-word l = record {
  text : l.rest.text.now ≡ l.fn.left.text.now;
  leaf : l.rest.leaf ≡ l.fn.left.leaf;
  breach : l.rest.breach ≡ l.fn.left.breach;
  same : from_offset l.offset l.rest.tokens.now ≡ from_offset l.offset l.fn.left.tokens.now;
  order : length l.rest.tokens.now ≤ length l.fn.left.tokens.now;
}

abbrev pub decreases-loop-word : goal.decreases-loop-word
decreases-loop-word l = length l.rest.tokens.now
