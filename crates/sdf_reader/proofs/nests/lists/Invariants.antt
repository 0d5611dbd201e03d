use Rattle.std.proofs.Common.{◌≡◌, ◌≤◌, ℕ, length}
use Rattle.line_text.specs.Spans.{part_of}
use Rattle.sdf_lex.specs.Tokens.{tokens}
use Rattle.sdf_reader.specs.Lefts.{tokens_left, Follows}
use Rattle.sdf_reader.specs.Until.{until}
use Rattle.sdf_reader.specs.Nests.{no_list, nested, lists}
use Rattle.sdf_reader.proofs.nests.lists.Given as goal

-- the lists that are left are passed as all of them are
abbrev pub invariant-loop-rest : goal.invariant-loop-rest
invariant-loop-rest l = record {
  same : (n : ℕ) × ((length (tokens (part_of l.rest.rest)) ≤ n) × (until no_list nested n (tokens_left l.rest) ≡ lists (tokens_left l.left)));
  follows : Follows l.left l.rest;
}

abbrev pub decreases-loop-rest : goal.decreases-loop-rest
decreases-loop-rest l = length (tokens (part_of l.rest.rest))
