use Rattle.plan_cert.specs.Lines.{IsStartLine}
use Rattle.plan_cert.specs.Failures.{AllBelow}
use Rattle.plan_cert.proofs.line_checks.first_wrong_start.Given as goal

abbrev pub invariant-loop-s : goal.invariant-loop-s
invariant-loop-s g l = AllBelow (IsStartLine (g.N.Naming.names l.names) l.starts l.lines) l.s
