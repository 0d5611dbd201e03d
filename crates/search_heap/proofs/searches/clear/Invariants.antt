use Rattle.std.proofs.Common.{◌≡◌, ℕ, ◌<◌, None}
use Rattle.search_heap.specs.Entries.{entry_at}
use Rattle.search_heap.proofs.searches.clear.Given as goal

abbrev pub invariant-loop-entry : goal.invariant-loop-entry
invariant-loop-entry l = (v : ℕ) → v < l.entry-index → entry_at l.entries v ≡ None
