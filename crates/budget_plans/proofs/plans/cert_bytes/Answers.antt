use Rattle.budget_plans.specs.Layouts.{laid_of}
use Rattle.budget_plans.proofs.LaidOut.{of_design, few_classes}
use Rattle.budget_plans.proofs.CertifiedPlans.{cert_text, certifies}
use Rattle.budget_plans.proofs.plans.cert_bytes.Goals as goal

pub cert_of-requires-clause-layered : goal.cert_of-requires-clause-layered
cert_of-requires-clause-layered c = of_design c.args.layout.now c.requires.laid

pub cert_of-requires-clause-classes : goal.cert_of-requires-clause-classes
cert_of-requires-clause-classes c = few_classes c.args.layout.now c.requires.laid

pub returns : goal.returns
returns c =
    let made = c.in_ok-cert.ensures in
    let x = c.args.layout.now in
    cert_text (laid_of x) c.in_ok-cert.cert c.args.plan.now c.write_cert.result (certifies x c.in_ok-cert.cert c.requires.laid (made.holds c.requires.holds)) made.plan
    (c.write_cert.ensures.reads (made.ranges c.requires.laid.names c.requires.numbers))
