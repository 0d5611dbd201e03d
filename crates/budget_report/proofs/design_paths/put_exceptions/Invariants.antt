use Rattle.std.proofs.Common.{◌≡◌, ◌++◌, drop, map}
use Rattle.std.specs.List.{flat_map}
use Rattle.line_text.specs.Written.{spaced}
use Rattle.budget_report.specs.DesignPaths.{met_field}
use Rattle.budget_report.proofs.design_paths.put_exceptions.Given as goal

abbrev pub invariant-loop-met : goal.invariant-loop-met
invariant-loop-met l = l.out.items ++ flat_map spaced (map (met_field l.exceptions) (drop l.met-index l.mets)) ≡ l.fn.out.items ++ flat_map spaced (map (met_field l.exceptions) l.mets)
