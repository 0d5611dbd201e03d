use Rattle.std.proofs.Common.{◌≡◌, ◌<◌, ◌||◌, ℕ, drop, length}
use Rattle.number_marks.specs.Marks.{has_number, is_marked}
use Rattle.number_marks.proofs.marks.marks.Given as goal

-- a number is marked or among those that are left where it is among all
abbrev pub invariant-loop-number : goal.invariant-loop-number
invariant-loop-number l =
    (length l.marks.items ≡ l.count)
    × ((v : ℕ) → v < l.count → (is_marked l.marks.items v || has_number (drop l.number-index l.numbers) v) ≡ has_number l.numbers v)
