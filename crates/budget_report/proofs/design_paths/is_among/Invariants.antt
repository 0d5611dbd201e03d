use Rattle.std.proofs.Common.{◌≡◌, drop}
use Rattle.budget_report.specs.DesignPaths.{is_among}
use Rattle.budget_report.proofs.design_paths.is_among.Given as goal

abbrev pub invariant-loop-other : goal.invariant-loop-other
invariant-loop-other l = is_among l.numbers l.number ≡ is_among (drop l.other-index l.numbers) l.number
