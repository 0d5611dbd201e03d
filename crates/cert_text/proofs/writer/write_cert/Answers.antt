use Rattle.std.proofs.lemmas.Result.{IfOk-weaker}
use Rattle.cert_text.proofs.WritingLaws.{text_reads}
use Rattle.cert_text.proofs.writer.write_cert.Goals as goal

pub returns-clause-reads : goal.returns-clause-reads
returns-clause-reads c = λ given.
    IfOk-weaker c.write_lines.result _ _ (λ text same. rw same (text_reads c.args.cert.now given)) c.write_lines.ensures
