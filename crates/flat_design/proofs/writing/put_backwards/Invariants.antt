use Rattle.std.proofs.Common.{◌≡◌, ◌++◌, take, reverse}
use Rattle.flat_design.proofs.writing.put_backwards.Given as goal

abbrev pub invariant-loop-left : goal.invariant-loop-left
invariant-loop-left l = l.text.items ≡ l.initial.text.items ++ take l.left (reverse l.piece)
