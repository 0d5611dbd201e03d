use Rattle.std.proofs.Common.{◌≡◌, ◌≤◌, length}
use Rattle.line_text.specs.Spans.{part_of, stop}
use Rattle.sdf_lex.specs.Tokens.{tokens}
use Rattle.sdf_lex.proofs.tokens.next_token.Given as goal

-- what is passed holds no token
abbrev pub invariant-loop-rest : goal.invariant-loop-rest
invariant-loop-rest l = record {
  same : tokens (part_of l.rest) ≡ tokens (part_of l.fn.text);
  at : l.fn.text.at ≤ l.rest.at;
  stop_is : stop l.rest ≡ stop l.fn.text;
  shorter : length l.rest.bytes.now ≤ length l.fn.text.bytes.now;
}

abbrev pub decreases-loop-rest : goal.decreases-loop-rest
decreases-loop-rest l = length l.rest.bytes.now
