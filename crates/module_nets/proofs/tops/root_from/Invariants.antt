use Rattle.std.proofs.Common.{◌≡◌, ◌-◌, ◌≤◌, length, drop}
use Rattle.std.specs.List.{position_from}
use Rattle.module_nets.specs.Tables.{holds}
use Rattle.module_nets.specs.Tops.{is_root}
use Rattle.module_nets.proofs.tops.root_from.Given as goal

abbrev pub invariant-loop-k : goal.invariant-loop-k
invariant-loop-k l = record {
  same : position_from (is_root (holds l.names)) l.from (drop l.from l.modules) ≡ position_from (is_root (holds l.names)) l.k (drop l.k l.modules);
  within : l.k ≤ length l.modules;
}

abbrev pub decreases-loop-k : goal.decreases-loop-k
decreases-loop-k l = length l.modules - l.k
