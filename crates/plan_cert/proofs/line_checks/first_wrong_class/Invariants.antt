use Rattle.plan_cert.specs.Lines.{IsClassLine}
use Rattle.plan_cert.specs.Failures.{AllBelow}
use Rattle.plan_cert.proofs.line_checks.first_wrong_class.Given as goal

abbrev pub invariant-loop-k : goal.invariant-loop-k
invariant-loop-k g l = AllBelow (IsClassLine (g.N.Naming.names l.names).classes l.lines) l.k
