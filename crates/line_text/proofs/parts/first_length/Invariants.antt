use Rattle.std.proofs.Common.{◌≡◌, ℕ, ◌<◌, get_or, false}
use Rattle.line_text.specs.Spans.{cuts}
use Rattle.line_text.proofs.parts.first_length.Given as goal

abbrev pub invariant-loop-i : goal.invariant-loop-i
invariant-loop-i l = (k : ℕ) → k < l.i → cuts l.cut (get_or l.bytes k 0) ≡ false
