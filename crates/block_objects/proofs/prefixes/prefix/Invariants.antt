use Rattle.std.proofs.Common.{◌≡◌, ◌≤◌}
use Rattle.std.specs.Prelude.{find}
use Rattle.std.specs.List.{range_with_len}
use Rattle.block_theory.specs.BlockClocks.{is_free}
use Rattle.block_objects.proofs.FreeLetters.{total, left}
use Rattle.block_objects.proofs.prefixes.prefix.Given as goal

-- no fewer letters are free
abbrev pub invariant-loop-letters : goal.invariant-loop-letters
invariant-loop-letters l =
    (find (is_free l.clocks) (range_with_len 0 (left l.clocks 0)) ≡ find (is_free l.clocks) (range_with_len l.letters (left l.clocks l.letters))) × (l.letters ≤ total l.clocks)

abbrev pub decreases-loop-letters : goal.decreases-loop-letters
decreases-loop-letters l = left l.clocks l.letters
