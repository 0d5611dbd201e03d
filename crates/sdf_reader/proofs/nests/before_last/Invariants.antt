use Rattle.std.proofs.Common.{◌≡◌, ◌≤◌, ℕ, length}
use Rattle.line_text.specs.Spans.{part_of}
use Rattle.sdf_lex.specs.Tokens.{tokens}
use Rattle.sdf_reader.specs.Lefts.{tokens_left, Follows}
use Rattle.sdf_reader.specs.Until.{until}
use Rattle.sdf_reader.specs.Nests.{is_last, element, before_last}
use Rattle.sdf_reader.proofs.nests.before_last.Given as goal

-- the elements that are left are passed as all of them are
abbrev pub invariant-loop-behind : goal.invariant-loop-behind
invariant-loop-behind l = record {
  same : (n : ℕ) × ((length (tokens (part_of l.rest.rest)) ≤ n) × (until is_last element n (tokens_left l.rest) ≡ before_last (tokens_left l.left)));
  follows : Follows l.left l.rest;
}

abbrev pub decreases-loop-behind : goal.decreases-loop-behind
decreases-loop-behind l = length (tokens (part_of l.rest.rest))
