use Rattle.std.proofs.Common.{◌≡◌, map, take, length}
use Rattle.plan_cert.specs.Failures.{AllBelow}
use Rattle.plan_cert.specs.Lines.{IsNodeLine}
use Rattle.plan_cert.proofs.named_certs.node_lines.Given as goal

abbrev pub invariant-loop-k : goal.invariant-loop-k
invariant-loop-k g l = record {
  size : length l.lines.items ≡ l.k;
  names : AllBelow (IsNodeLine (g.N.Naming.names l.names) l.lines.items) l.k;
  numbers : map (λ line. line.arrival) l.lines.items ≡ take l.k l.arrivals;
}
