use Rattle.std.proofs.Common.{◌≡◌, drop, length}
use Rattle.net_drivers.specs.Slots.{filled, assigned_puts}
use Rattle.net_drivers.proofs.slots.put_assigned.Given as goal

abbrev pub invariant-loop-k : goal.invariant-loop-k
invariant-loop-k l = record {
  size : length l.slots ≡ length l.initial.slots;
  slots : filled (assigned_puts (drop l.k l.lefts) (drop l.k l.rights)) l.slots ≡ filled (assigned_puts l.lefts l.rights) l.initial.slots;
}
