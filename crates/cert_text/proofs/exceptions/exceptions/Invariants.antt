use Rattle.std.proofs.Common.{◌≡◌, ◌≤◌, length}
use Rattle.std.specs.Option.{ForSome}
use Rattle.line_text.specs.Parts.{fields}
use Rattle.line_text.specs.Spans.{part_of, stop}
use Rattle.cert_text.specs.Exceptions.{exceptions}
use Rattle.cert_text.proofs.ExceptionLaws.{with_exceptions}
use Rattle.cert_text.proofs.exceptions.exceptions.Given as goal

-- the exceptions so far and those of the fields that are left are those of all fields
abbrev pub invariant-loop-field : goal.invariant-loop-field
invariant-loop-field l = record {
  same : with_exceptions l.list.items (exceptions (fields (part_of l.rest)) l.breach) ≡ exceptions (fields (part_of l.fn.line.rest)) l.fn.line.breach;
  passed : ForSome l.breach (λ at. at ≤ l.rest.at);
  order : l.fn.line.rest.at ≤ l.rest.at;
  stop_stays : stop l.rest ≡ stop l.fn.line.rest;
}

abbrev pub decreases-loop-field : goal.decreases-loop-field
decreases-loop-field l = length (fields (part_of l.rest))
