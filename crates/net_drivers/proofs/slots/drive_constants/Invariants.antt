use Rattle.std.proofs.Common.{◌≡◌, ◌+◌, ◌≤◌, drop, length}
use Rattle.net_drivers.specs.Slots.{filled, counted, constant_puts, widths}
use Rattle.net_drivers.proofs.slots.drive_constants.Given as goal

abbrev pub invariant-loop-net : goal.invariant-loop-net
invariant-loop-net l = record {
  size : length l.slots ≡ length l.initial.slots;
  rows_size : length l.rows ≡ length l.initial.slots;
  fits : l.first + widths (drop l.net-index l.nets) ≤ length l.initial.slots;
  slots : filled (constant_puts l.first (drop l.net-index l.nets)) l.slots ≡ filled (constant_puts l.fn.first l.nets) l.initial.slots;
  rows : counted (constant_puts l.first (drop l.net-index l.nets)) l.rows ≡ counted (constant_puts l.fn.first l.nets) l.initial.rows;
}
