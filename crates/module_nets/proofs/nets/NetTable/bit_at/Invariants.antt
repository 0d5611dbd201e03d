use Rattle.std.proofs.Common.{◌≡◌, ◌≤◌, take}
use Rattle.module_nets.specs.Numbers.{bits_in, module_nets}
use Rattle.module_nets.proofs.nets.NetTable.bit_at.Given as goal

-- the bits of the nets so far stand before the number
abbrev pub invariant-loop-name : goal.invariant-loop-name
invariant-loop-name l = record {
  counted : l.before ≡ bits_in (take l.name-index (module_nets l.self.«module».now));
  below : l.before ≤ l.number;
}
