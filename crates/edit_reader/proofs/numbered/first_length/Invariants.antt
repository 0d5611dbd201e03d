use Rattle.std.proofs.Common.{◌≡◌, ℕ, ◌<◌, get_or, false}
use Rattle.line_text.specs.Parts.{is_feed}
use Rattle.edit_reader.proofs.numbered.first_length.Given as goal

abbrev pub invariant-loop-i : goal.invariant-loop-i
invariant-loop-i l = (k : ℕ) → k < l.i → is_feed (get_or l.bytes k 0) ≡ false
