use Rattle.plan_cert.proofs.HoldingLemmas.{IsNumbersAnswer-from_weights}
use Rattle.plan_cert.proofs.checks.check_numbers.Goals as goal

pub returns-clause-answer : goal.returns-clause-answer
returns-clause-answer c =
    IsNumbersAnswer-from_weights c.args.problem.now c.args.cert.now c.compare_weights.result c.requires.counts
    c.in_default.ensures c.in_default-first_late.ensures c.in_default-first_negative.ensures c.in_default-first_unkept.ensures.first c.compare_weights.ensures
