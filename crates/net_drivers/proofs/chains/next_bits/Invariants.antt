use Rattle.std.proofs.Common.{◌≡◌, length, slice_index, ℕ, ◌<◌}
use Rattle.net_drivers.specs.Slots.{slot_at}
use Rattle.net_drivers.specs.Numbering.{step_from}
use Rattle.net_drivers.proofs.chains.next_bits.Given as goal

abbrev pub invariant-loop-bit : goal.invariant-loop-bit
invariant-loop-bit l = (length l.next.items ≡ l.bit) × ((k : ℕ) → k < l.bit → slice_index l.next.items k ≡ step_from k (slot_at l.slots k))
