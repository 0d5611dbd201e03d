use Rattle.std.proofs.Common.{◌≡◌, ◌-◌, length}
use Rattle.net_drivers.specs.Slots.{filled, counted, constant_bits}
use Rattle.net_drivers.proofs.slots.drive_constant.Given as goal

abbrev pub invariant-loop-bit : goal.invariant-loop-bit
invariant-loop-bit l = record {
  size : length l.slots ≡ length l.initial.slots;
  rows_size : length l.rows ≡ length l.initial.slots;
  slots : filled (constant_bits l.bit (l.end - l.bit)) l.slots ≡ filled (constant_bits l.first (l.end - l.first)) l.initial.slots;
  rows : counted (constant_bits l.bit (l.end - l.bit)) l.rows ≡ counted (constant_bits l.first (l.end - l.first)) l.initial.rows;
}
