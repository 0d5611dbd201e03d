use Rattle.std.proofs.Common.{arith}
use Rattle.std.proofs.lemmas.List.{take_rest}
use Rattle.line_text.proofs.PartsLemmas.{cut_found, cut_none}
use Rattle.line_text.specs.Spans.{cuts}
use Rattle.line_text.proofs.parts.split_first.Goals as goal

pub returns-then-length-part-clause-cut : goal.returns-then-length-part-clause-cut
returns-then-length-part-clause-cut c = rw take_rest (cut_none (cuts c.args.cut) _ _ c.args.part.bytes.now c.first_length-length.ensures.first c.if-length-part.true)

pub returns-clause-cut : goal.returns-clause-cut
returns-clause-cut c = rw take_rest (cut_found (cuts c.args.cut) _ _ c.args.part.bytes.now c.first_length-length.ensures.first (omega arith))
