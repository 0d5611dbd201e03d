use Rattle.std.proofs.Common.{◌≡◌, ◌+◌, ◌≤◌, length, vec_len}
use Rattle.std.specs.Option.{ForSome}
use Rattle.line_text.specs.Parts.{rows}
use Rattle.line_text.specs.Spans.{part_of, stop}
use Rattle.line_text.specs.Lines.{section}
use Rattle.line_text.proofs.SectionLemmas.{with_front}
use Rattle.line_text.proofs.owned.owned_section.Given as goal

-- the values so far and those of the rows that are left are those of all rows
abbrev pub invariant-loop-row : goal.invariant-loop-row
invariant-loop-row g l =
    let read = section g.L.OwnedLine.title g.L.OwnedLine.production in
    record {
      same : with_front l.values.items (read (rows (part_of l.rest)) l.breach) ≡ read (rows (part_of l.fn.text.rest)) l.fn.text.breach;
      passed : ForSome l.breach (λ at. at ≤ l.rest.at);
      order : l.fn.text.rest.at ≤ l.rest.at;
      stop_stays : stop l.rest ≡ stop l.fn.text.rest;
      size : vec_len l.values + length l.rest.bytes.now ≤ length l.fn.text.rest.bytes.now;
    }

abbrev pub decreases-loop-row : goal.decreases-loop-row
decreases-loop-row g l = length l.rest.bytes.now
