use Rattle.std.proofs.Common.{◌≡◌, drop}
use Rattle.budget_report.specs.DesignPaths.{has_groups}
use Rattle.budget_report.proofs.design_paths.has_groups.Given as goal

abbrev pub invariant-loop-exception : goal.invariant-loop-exception
invariant-loop-exception l = has_groups l.exceptions l.number ≡ has_groups (drop l.exception-index l.exceptions) l.number
