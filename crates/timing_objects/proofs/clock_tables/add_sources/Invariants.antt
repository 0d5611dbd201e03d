use Rattle.std.proofs.Common.{◌≡◌, ℕ, ◌==◌, ◌||◌, take}
use Rattle.std.specs.List.{list_any}
use Rattle.timing_objects.specs.ClockTables.{holds}
use Rattle.timing_objects.proofs.clock_tables.add_sources.Given as goal

abbrev pub invariant-loop-pin : goal.invariant-loop-pin
invariant-loop-pin l = (v : ℕ) → holds l.sources.keys v ≡ (holds l.fn.sources.keys v || list_any (λ p. p.0 == v) (take l.pin-index l.pins))
