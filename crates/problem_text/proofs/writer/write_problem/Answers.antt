use Rattle.std.proofs.lemmas.Result.{IfOk-weaker}
use Rattle.problem_text.proofs.WritingLaws.{text_reads}
use Rattle.problem_text.proofs.writer.write_problem.Goals as goal

pub returns-clause-reads : goal.returns-clause-reads
returns-clause-reads c = λ given.
    IfOk-weaker c.write_lines.result _ _ (λ text same. rw same (text_reads c.args.problem.now given)) c.write_lines.ensures
