use Rattle.std.proofs.Common.{◌≡◌, map, take, length}
use Rattle.plan_cert.specs.Failures.{AllBelow}
use Rattle.plan_cert.specs.Lines.{IsStartLine}
use Rattle.plan_cert.proofs.named_certs.start_lines.Given as goal

abbrev pub invariant-loop-s : goal.invariant-loop-s
invariant-loop-s g l = record {
  size : length l.lines.items ≡ l.s;
  names : AllBelow (IsStartLine (g.N.Naming.names l.names) l.starts l.lines.items) l.s;
  flows : map (λ line. line.flow) l.lines.items ≡ take l.s l.flows;
}
