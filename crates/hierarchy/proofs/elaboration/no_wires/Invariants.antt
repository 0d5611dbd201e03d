use Rattle.std.proofs.Common.{◌≡◌, ℕ, [], length}
use Rattle.std.specs.Prelude.{slice_index_or}
use Rattle.hierarchy.proofs.elaboration.no_wires.Given as goal

abbrev pub invariant-loop : goal.invariant-loop
invariant-loop l = (length l.wires.items ≡ l.counter) × ((n : ℕ) → slice_index_or l.wires.items n [] ≡ [])
