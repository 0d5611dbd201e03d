use Rattle.std.proofs.Common.{◌≡◌, ◌<◌, ◌++◌, drop, length}
use Rattle.std.specs.Prelude.{All}
use Rattle.plan_report.specs.Summaries.{block_places}
use Rattle.plan_report.proofs.marks.block_places.Given as goal

abbrev pub invariant-loop-line : goal.invariant-loop-line
invariant-loop-line l = record {
  same : block_places l.flat l.lines ≡ l.places.items ++ block_places l.flat (drop l.line-index l.lines);
  within : All (λ p. p < length l.flat.places) l.places.items;
}
