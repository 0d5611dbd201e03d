use Rattle.std.proofs.Common.{◌≡◌, ◌≤◌, length}
use Rattle.line_text.specs.Parts.{fields}
use Rattle.line_text.specs.Spans.{part_of, stop}
use Rattle.line_text.proofs.parts.next_field.Given as goal

-- what is passed holds no field
abbrev pub invariant-loop-rest : goal.invariant-loop-rest
invariant-loop-rest l = record {
  same : fields (part_of l.rest) ≡ fields (part_of l.fn.line);
  at : l.fn.line.at ≤ l.rest.at;
  stop_is : stop l.rest ≡ stop l.fn.line;
}

abbrev pub decreases-loop-rest : goal.decreases-loop-rest
decreases-loop-rest l = length l.rest.bytes.now
