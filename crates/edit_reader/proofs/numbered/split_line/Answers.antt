use Rattle.std.proofs.Common.{arith}
use Rattle.std.proofs.lemmas.List.{take_rest}
use Rattle.line_text.proofs.PartsLemmas.{cut_found, cut_none}
use Rattle.line_text.specs.Parts.{is_feed}
use Rattle.edit_reader.proofs.numbered.split_line.Goals as goal

pub returns-then-length-text-clause-cut : goal.returns-then-length-text-clause-cut
returns-then-length-text-clause-cut c = rw take_rest (cut_none is_feed _ _ c.args.text.bytes.now c.first_length-length.ensures.first c.if-length-text.true)

pub returns-clause-cut : goal.returns-clause-cut
returns-clause-cut c = rw take_rest (cut_found is_feed _ _ c.args.text.bytes.now c.first_length-length.ensures.first (omega arith))
