use Rattle.std.proofs.Common.{◌≡◌, filter}
use Rattle.std.specs.List.{range_with_len}
use Rattle.number_marks.specs.Marks.{is_marked}
use Rattle.number_marks.proofs.marks.marked_below.Given as goal

abbrev pub invariant-loop-number : goal.invariant-loop-number
invariant-loop-number l = l.found.items ≡ filter (is_marked l.marks) (range_with_len 0 l.number)
