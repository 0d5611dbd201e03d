use Rattle.std.proofs.Common.{◌≡◌, ◌≤◌, length}
use Rattle.line_text.specs.Parts.{fields}
use Rattle.line_text.specs.Spans.{part_of, stop}
use Rattle.line_text.specs.Names.{counts}
use Rattle.line_text.proofs.CountLemmas.{with_numbers}
use Rattle.line_text.proofs.names.counts.Given as goal

-- the numbers so far and those of the fields that are left are those of all fields
abbrev pub invariant-loop-field : goal.invariant-loop-field
invariant-loop-field l = record {
  same : with_numbers l.numbers.items (counts l.least l.most (fields (part_of l.left.rest)) l.left.breach) ≡ counts l.least l.most (fields (part_of l.fn.line.rest)) l.fn.line.breach;
  order : l.fn.line.rest.at ≤ l.left.rest.at;
  stop_stays : stop l.left.rest ≡ stop l.fn.line.rest;
}

abbrev pub decreases-loop-field : goal.decreases-loop-field
decreases-loop-field l = length (fields (part_of l.left.rest))
