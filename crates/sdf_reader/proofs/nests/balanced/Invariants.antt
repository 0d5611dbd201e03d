use Rattle.std.proofs.Common.{◌≡◌, ◌+◌, ◌≤◌, length}
use Rattle.line_text.specs.Spans.{part_of, stop}
use Rattle.sdf_lex.specs.Tokens.{tokens}
use Rattle.sdf_reader.specs.Nests.{behind_list}
use Rattle.sdf_reader.proofs.nests.balanced.Given as goal

-- the list goes on behind what is passed, inside the lists that are open
abbrev pub invariant-loop-lexeme : goal.invariant-loop-lexeme
invariant-loop-lexeme l = record {
  same : behind_list l.depth (tokens (part_of l.rest)) ≡ behind_list 0 (tokens (part_of l.left.rest));
  order : l.left.rest.at ≤ l.rest.at;
  stop_stays : stop l.rest ≡ stop l.left.rest;
  deep : l.depth + length l.rest.bytes.now ≤ length l.left.rest.bytes.now;
  no_more : length (tokens (part_of l.rest)) ≤ length (tokens (part_of l.left.rest));
}

abbrev pub decreases-loop-lexeme : goal.decreases-loop-lexeme
decreases-loop-lexeme l = length l.rest.bytes.now
