use Rattle.std.proofs.Common.{◌≡◌, ◌+◌, ◌≤◌, length, vec_len}
use Rattle.std.specs.Option.{ForSome}
use Rattle.line_text.specs.Parts.{rows}
use Rattle.line_text.specs.Spans.{part_of, stop}
use Rattle.policy_reader.specs.Reading.{all_lines}
use Rattle.policy_reader.proofs.LineLemmas.{with_lines}
use Rattle.policy_reader.proofs.reader.read_lines.Given as goal

-- the lines so far and those of the rows that are left are those of all rows
abbrev pub invariant-loop-row : goal.invariant-loop-row
invariant-loop-row l = record {
  same : with_lines l.lines.items (all_lines l.version (rows (part_of l.rest)) l.breach) ≡ all_lines l.version (rows (part_of l.fn.text.rest)) l.fn.text.breach;
  passed : ForSome l.breach (λ at. at ≤ l.rest.at);
  order : l.fn.text.rest.at ≤ l.rest.at;
  stop_stays : stop l.rest ≡ stop l.fn.text.rest;
  size : vec_len l.lines + length l.rest.bytes.now ≤ length l.fn.text.rest.bytes.now;
}

abbrev pub decreases-loop-row : goal.decreases-loop-row
decreases-loop-row l = length l.rest.bytes.now
