use Rattle.budget_top.proofs.CertifiedPlans.{cert_text, certifies}
use Rattle.budget_top.proofs.plans.best_text.Goals as goal

pub returns : goal.returns
returns c =
    let made = c.in_ok-cert.ensures in
    let plan = c.in_ok-plan.ensures in
    cert_text _ _ _ (certifies _ _ c.requires.sound (made.holds plan.holds)) (c.write_cert.ensures.reads (made.ranges c.requires.sound plan.numbers))
