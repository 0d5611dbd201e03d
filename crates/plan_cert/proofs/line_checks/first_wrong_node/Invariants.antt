use Rattle.plan_cert.specs.Lines.{IsNodeLine}
use Rattle.plan_cert.specs.Failures.{AllBelow}
use Rattle.plan_cert.proofs.line_checks.first_wrong_node.Given as goal

abbrev pub invariant-loop-k : goal.invariant-loop-k
invariant-loop-k g l = AllBelow (IsNodeLine (g.N.Naming.names l.names) l.lines) l.k
