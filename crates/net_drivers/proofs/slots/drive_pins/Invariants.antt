use Rattle.std.proofs.Common.{◌≡◌, drop, length}
use Rattle.net_drivers.specs.Slots.{filled, counted, pin_puts}
use Rattle.net_drivers.proofs.slots.drive_pins.Given as goal

abbrev pub invariant-loop-k : goal.invariant-loop-k
invariant-loop-k l = record {
  size : length l.slots ≡ length l.initial.slots;
  rows_size : length l.rows ≡ length l.initial.slots;
  slots : filled (pin_puts l.meant l.instance l.k (drop l.k l.joints)) l.slots ≡ filled (pin_puts l.meant l.instance 0 l.joints) l.initial.slots;
  rows : counted (pin_puts l.meant l.instance l.k (drop l.k l.joints)) l.rows ≡ counted (pin_puts l.meant l.instance 0 l.joints) l.initial.rows;
}
