use Rattle.std.proofs.Common.{◌≡◌, ℕ, [], length}
use Rattle.std.specs.Prelude.{slice_index_or}
use Rattle.design_wires.proofs.numbers.no_kids.Given as goal

abbrev pub invariant-loop : goal.invariant-loop
invariant-loop l = (length l.kids.items ≡ l.counter) × ((p : ℕ) → slice_index_or l.kids.items p [] ≡ [])
