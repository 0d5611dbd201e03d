use Rattle.plan_cert.specs.Lines.{IsEndLine}
use Rattle.plan_cert.specs.Failures.{AllBelow}
use Rattle.plan_cert.proofs.line_checks.first_wrong_end.Given as goal

abbrev pub invariant-loop-e : goal.invariant-loop-e
invariant-loop-e g l = AllBelow (IsEndLine (g.N.Naming.names l.names) l.ends l.lines) l.e
