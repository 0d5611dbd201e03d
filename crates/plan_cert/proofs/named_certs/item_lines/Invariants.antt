use Rattle.std.proofs.Common.{◌≡◌, map, take, length}
use Rattle.plan_cert.specs.Failures.{AllBelow}
use Rattle.plan_cert.specs.Lines.{IsItemLine}
use Rattle.plan_cert.proofs.named_certs.item_lines.Given as goal

abbrev pub invariant-loop-i : goal.invariant-loop-i
invariant-loop-i g l = record {
  size : length l.lines.items ≡ l.i;
  names : AllBelow (IsItemLine (g.N.Naming.names l.names) l.items l.lines.items) l.i;
  budgets : map (λ line. line.budget) l.lines.items ≡ take l.i l.budgets;
  flows : map (λ line. line.flow) l.lines.items ≡ take l.i l.flows;
}
