use Rattle.std.proofs.Common.{◌≤◌, length, ap, arith}
use Rattle.std.proofs.lemmas.Result.{IfOk-weaker}
use Rattle.line_text.specs.Spans.{part_of}
use Rattle.sdf_lex.specs.Tokens.{tokens}
use Rattle.sdf_lex.proofs.TokenLemmas.{tokens_few}
use Rattle.sdf_reader.proofs.reader.read_loosely.Goals as goal

pub returns-clause-size : goal.returns-clause-size
returns-clause-size c =
    let few = tokens_few (part_of c.new.result.rest) in
    let same = ap length c.new.ensures.bytes in
    IfOk-weaker c.read_left.result (λ r. length r.0.rows ≤ length (tokens (part_of c.new.result.rest))) (λ r. length r.0.rows ≤ length c.args.text.now) (λ r less. omega arith) c.read_left.ensures.size
