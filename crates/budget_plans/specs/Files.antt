-- The files that a plan takes beside those of its design: a policy, and a certificate to be checked.
use Rattle.bud_base.specs.declared.texts.TextFault.{TextFault}
use Rattle.bud_design.specs.declared.policies.Policy.{Policy}
use Rattle.budget_report.specs.declared.causes.Cause.TheVariants.{Text}
use Rattle.budget_steps.specs.Inputs.{Grammar}
use Rattle.cert_text.specs.Texts.{IsReadAnswer as IsCertAnswer}
use Rattle.cert_text.specs.declared.certs.Cert.{Cert}
use Rattle.policy_reader.specs.Policies.{IsReadAnswer as IsPolicyAnswer}

abbrev pub policies : Grammar Policy TextFault
policies = record { answers = IsPolicyAnswer; cause = λ name fault. Text name fault }

abbrev pub certificates : Grammar Cert TextFault
certificates = record { answers = IsCertAnswer; cause = λ name fault. Text name fault }
