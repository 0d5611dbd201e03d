use Rattle.std.proofs.lemmas.Result.{IfOk-weaker}
use Rattle.sdc_writer.proofs.Printed.{text_reads}
use Rattle.sdc_writer.proofs.writer.print_sdc.Goals as goal

pub returns-clause-reads : goal.returns-clause-reads
returns-clause-reads c = λ given.
    IfOk-weaker c.write_lines.result _ _ (λ text same. rw same (text_reads c.args.file.now given)) c.write_lines.ensures
