use Rattle.std.proofs.Common.{◌≡◌, ◌≤◌, length}
use Rattle.line_text.specs.Parts.{rows}
use Rattle.line_text.specs.Spans.{part_of, stop}
use Rattle.line_text.proofs.parts.next_row.Given as goal

-- what is passed holds no row
abbrev pub invariant-loop-rest : goal.invariant-loop-rest
invariant-loop-rest l = record {
  same : rows (part_of l.rest) ≡ rows (part_of l.fn.text);
  at : l.fn.text.at ≤ l.rest.at;
  stop_is : stop l.rest ≡ stop l.fn.text;
  shorter : length l.rest.bytes.now ≤ length l.fn.text.bytes.now;
}

abbrev pub decreases-loop-rest : goal.decreases-loop-rest
decreases-loop-rest l = length l.rest.bytes.now
