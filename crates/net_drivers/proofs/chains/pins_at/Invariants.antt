use Rattle.std.proofs.Common.{◌≡◌, length, None, slice_index, slice_index_or, ℕ, ◌<◌}
use Rattle.net_drivers.specs.Slots.{slot_at}
use Rattle.net_drivers.specs.Numbering.{pin_in}
use Rattle.net_drivers.proofs.chains.pins_at.Given as goal

abbrev pub invariant-loop-bit : goal.invariant-loop-bit
invariant-loop-bit l = (length l.pins.items ≡ l.bit-index) × ((k : ℕ) → k < l.bit-index → slice_index_or l.pins.items k None ≡ pin_in (slot_at l.slots (slice_index l.far k)))
