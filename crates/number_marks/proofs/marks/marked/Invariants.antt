use Rattle.std.proofs.Common.{◌≡◌, ◌<◌, ◌++◌, drop, filter, length, All}
use Rattle.number_marks.specs.Marks.{is_marked}
use Rattle.number_marks.proofs.marks.marked.Given as goal

-- those found so far and those that are left are all, and all have marks where those that are left do
abbrev pub invariant-loop-number : goal.invariant-loop-number
invariant-loop-number l =
    (filter (is_marked l.marks) l.numbers ≡ l.found.items ++ filter (is_marked l.marks) (drop l.number-index l.numbers))
    × (All (λ v. v < length l.marks) (drop l.number-index l.numbers) → All (λ v. v < length l.marks) l.numbers)
