use Rattle.std.proofs.Common.{length}
use Rattle.verilog_reader.proofs.ReadLaws.{refused_answer, judged_answer}
use Rattle.verilog_reader.proofs.SizeLaws.{answer_short}
use Rattle.verilog_reader.proofs.reader.read_tokens.Goals as goal

pub returns-in-Err-Syntax-clause-answer : goal.returns-in-Err-Syntax-clause-answer
returns-in-Err-Syntax-clause-answer c =
    refused_answer c.args.text.now c.args.tokens.now c.refused.result c.requires.tokens (rw c.in-Err-Syntax.field-0-is at c.in-Err-Syntax.ensures) c.refused.ensures

pub returns-in-Ok-clause-size : goal.returns-in-Ok-clause-size
returns-in-Ok-clause-size c =
    answer_short (length c.args.text.now) c.args.text.now c.args.tokens.now c.judged.result c.requires.tokens c.requires.size
    (judged_answer c.args.text.now c.args.tokens.now c.in-Ok.found c.judged.result c.requires.tokens c.in-Ok.ensures c.judged.ensures)
