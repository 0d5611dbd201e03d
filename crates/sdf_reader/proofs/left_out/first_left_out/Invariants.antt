use Rattle.std.proofs.Common.{◌≡◌, length}
use Rattle.line_text.specs.Spans.{part_of}
use Rattle.sdf_lex.specs.Tokens.{tokens}
use Rattle.sdf_reader.specs.LeftOut.{first_left_out}
use Rattle.sdf_reader.proofs.left_out.first_left_out.Given as goal

-- nothing that is left out is passed
abbrev pub invariant-loop-lexeme : goal.invariant-loop-lexeme
invariant-loop-lexeme l = first_left_out (tokens (part_of l.rest)) ≡ first_left_out (tokens (part_of l.text))

abbrev pub decreases-loop-lexeme : goal.decreases-loop-lexeme
decreases-loop-lexeme l = length l.rest.bytes.now
