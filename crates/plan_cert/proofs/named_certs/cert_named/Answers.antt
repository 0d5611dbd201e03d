use Rattle.plan_cert.proofs.NamedTexts.{IsInTextRanges-on_ok, IsCertOf-on_ok}
use Rattle.plan_cert.proofs.named_certs.cert_named.Goals as goal

pub returns-clause-ranges : goal.returns-clause-ranges
returns-clause-ranges g c = λ sound text numbers.
    IsInTextRanges-on_ok _ c.args.problem.now c.args.plan.now c.cert_lines.result sound text numbers
    c.cert_lines.ensures.version c.cert_lines.ensures.classes c.cert_lines.ensures.class_numbers c.cert_lines.ensures.lines c.cert_lines.ensures.plan

pub returns-clause-holds : goal.returns-clause-holds
returns-clause-holds g c = λ holds.
    IsCertOf-on_ok _ c.args.problem.now c.args.plan.now c.cert_lines.result holds
    c.cert_lines.ensures.version c.cert_lines.ensures.lines c.cert_lines.ensures.plan
