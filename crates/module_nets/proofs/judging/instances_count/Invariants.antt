use Rattle.std.proofs.Common.{◌≡◌, ◌+◌, ◌≤◌, sum_by, drop}
use Rattle.module_nets.specs.Entering.{instance_count}
use Rattle.module_nets.specs.Nets.{module_called}
use Rattle.module_nets.specs.Numbers.{capped}
use Rattle.module_nets.proofs.judging.instances_count.Given as goal

abbrev pub invariant-loop-k : goal.invariant-loop-k
invariant-loop-k l = record {
  whole : capped (sum_by (λ i. instance_count (module_called l.library.modules.now i.«module»)) l.instances)
      ≡ capped (l.count + sum_by (λ i. instance_count (module_called l.library.modules.now i.«module»)) (drop l.k l.instances));
  most : l.count ≤ 18446744073709551615;
}
