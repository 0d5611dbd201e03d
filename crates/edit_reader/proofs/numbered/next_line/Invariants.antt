use Rattle.std.proofs.Common.{◌≡◌, ◌≤◌, ◌+◌, length}
use Rattle.line_text.specs.Spans.{part_of, stop}
use Rattle.edit_reader.specs.Numbered.{lines_from}
use Rattle.edit_reader.proofs.numbered.next_line.Given as goal

-- what is passed holds no line that is kept
abbrev pub invariant-loop-rest : goal.invariant-loop-rest
invariant-loop-rest l = record {
  same : lines_from l.number (part_of l.rest) ≡ lines_from l.fn.text.number (part_of l.fn.text.rest);
  at : l.fn.text.rest.at ≤ l.rest.at;
  few : l.number ≤ l.rest.at + 1;
  stop_is : stop l.rest ≡ stop l.fn.text.rest;
  shorter : length l.rest.bytes.now ≤ length l.fn.text.rest.bytes.now;
}

abbrev pub decreases-loop-rest : goal.decreases-loop-rest
decreases-loop-rest l = length l.rest.bytes.now
