use Rattle.plan_cert.specs.Lines.{IsItemLine}
use Rattle.plan_cert.specs.Failures.{AllBelow}
use Rattle.plan_cert.proofs.line_checks.first_wrong_item.Given as goal

abbrev pub invariant-loop-i : goal.invariant-loop-i
invariant-loop-i g l = AllBelow (IsItemLine (g.N.Naming.names l.names) l.items l.lines) l.i
