use Rattle.std.proofs.Common.{◌≡◌, ◌++◌, drop}
use Rattle.plan_report.specs.Summaries.{block_lines}
use Rattle.plan_report.proofs.summaries.put_blocks.Given as goal

abbrev pub invariant-loop-place : goal.invariant-loop-place
invariant-loop-place l =
    l.fn.out.items ++ block_lines l.layered l.flat l.graph.arcs l.plan.budgets l.places
    ≡ l.out.items ++ block_lines l.layered l.flat l.graph.arcs l.plan.budgets (drop l.place-index l.places)
