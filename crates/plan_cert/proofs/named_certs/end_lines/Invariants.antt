use Rattle.std.proofs.Common.{◌≡◌, map, take, length}
use Rattle.plan_cert.specs.Failures.{AllBelow}
use Rattle.plan_cert.specs.Lines.{IsEndLine}
use Rattle.plan_cert.proofs.named_certs.end_lines.Given as goal

abbrev pub invariant-loop-e : goal.invariant-loop-e
invariant-loop-e g l = record {
  size : length l.lines.items ≡ l.e;
  names : AllBelow (IsEndLine (g.N.Naming.names l.names) l.ends l.lines.items) l.e;
  flows : map (λ line. line.flow) l.lines.items ≡ take l.e l.flows;
}
