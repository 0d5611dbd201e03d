use Rattle.std.proofs.Common.{◌≡◌, ◌≤◌, ℕ, length}
use Rattle.line_text.specs.Spans.{part_of}
use Rattle.sdf_lex.specs.Tokens.{tokens}
use Rattle.sdf_reader.specs.Lefts.{tokens_left, Follows}
use Rattle.sdf_reader.specs.Until.{until}
use Rattle.sdf_reader.specs.Settings.{set_of}
use Rattle.sdf_reader.specs.Headers.{ends_headers, header, headers}
use Rattle.sdf_reader.proofs.headers.headers.Given as goal

-- the headers that are left set, behind those that are read, what all of them set
abbrev pub invariant-loop-heads : goal.invariant-loop-heads
invariant-loop-heads l = record {
  same : (n : ℕ) × ((length (tokens (part_of l.heads.left.rest)) ≤ n)
      × (until ends_headers header n (set_of l.heads.settings, tokens_left l.heads.left) ≡ headers (set_of l.first.settings, tokens_left l.first.left)));
  follows : Follows l.first.left l.heads.left;
}

abbrev pub decreases-loop-heads : goal.decreases-loop-heads
decreases-loop-heads l = length (tokens (part_of l.heads.left.rest))
