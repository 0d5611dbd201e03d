use Rattle.cert_text.specs.Certs.{plan_in}
use Rattle.plan_cert.proofs.HoldingLemmas.{AreBest-on_holds}
use Rattle.plan_cert.proofs.checks.check_named.Goals as goal

pub returns-in-None-clause-best : goal.returns-in-None-clause-best
returns-in-None-clause-best g c =
    AreBest-on_holds c.args.problem.now (plan_in c.args.cert.now) c.check_numbers.result c.requires.sound c.check_numbers.ensures.answer
