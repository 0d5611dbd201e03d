use Rattle.plan_cert.proofs.RawTexts.{AreTextNames-raw}
use Rattle.plan_cert.proofs.raw_certs.raw_cert_of.Goals as goal

pub returns-clause-ranges : goal.returns-clause-ranges
returns-clause-ranges c = λ sound numbers. c.cert_named.ensures.ranges sound (AreTextNames-raw c.args.problem.now sound) numbers
