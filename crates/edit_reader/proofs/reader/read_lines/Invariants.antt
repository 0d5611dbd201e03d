use Rattle.std.proofs.Common.{◌≡◌, ◌+◌, ◌≤◌, length}
use Rattle.std.specs.Option.{ForSome}
use Rattle.line_text.specs.Spans.{part_of, stop}
use Rattle.edit_reader.specs.Numbered.{lines_from}
use Rattle.edit_reader.specs.Reading.{AreSoFar}
use Rattle.edit_reader.proofs.reader.read_lines.Given as goal

abbrev pub invariant-loop-line : goal.invariant-loop-line
invariant-loop-line l = record {
  so_far : AreSoFar l.version (lines_from l.fn.text.number (part_of l.fn.text.rest)) l.script l.breach (lines_from l.rest.number (part_of l.rest.rest));
  within : ForSome l.breach (λ at. at ≤ stop l.fn.text.rest);
  stop_stays : stop l.rest.rest ≡ stop l.fn.text.rest;
  size : length l.script + length l.rest.rest.bytes.now ≤ length l.fn.text.rest.bytes.now;
}

abbrev pub decreases-loop-line : goal.decreases-loop-line
decreases-loop-line l = length l.rest.rest.bytes.now
