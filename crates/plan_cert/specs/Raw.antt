-- Certificates of raw problems: a node's name is its number, there is one class, 0, without a line, and the policy has version 1.
use Rattle.std.specs.Prelude.{[]}
use Rattle.std.specs.Fmt.{decimal}
use Rattle.bud_base.specs.declared.problems.Problem.{Problem}
use Rattle.plan_cert.specs.Names.{Names}
use Rattle.plan_cert.specs.Certificates.{HasLines, IsCertOf, IsCertFault, IsCertAnswer}
use Rattle.cert_text.specs.declared.certs.Cert.{Cert}
use Rattle.plan_cert.specs.declared.answers.CertAnswer.{CertAnswer}
use Rattle.plan_cert.specs.declared.answers.CertFault.{CertFault}

abbrev pub raw_names : Names
raw_names = record { version = 1; classes = []; node_name = decimal; node_class = λ n. 0 }

-- the lines are those of the problem, in its order and with its node numbers as names
abbrev pub HasRawLines : Problem → Cert → Type 0
HasRawLines = HasLines raw_names

-- the certificate holds for the problem
abbrev pub IsRawCert : Problem → Cert → Type 0
IsRawCert = IsCertOf raw_names

-- the certificate's first fault
abbrev pub IsRawFault : Problem → Cert → CertFault → Type 0
IsRawFault p cert fault = IsCertFault raw_names p cert fault

-- the certificate holds and its weight, or its first fault
abbrev pub IsRawAnswer : Problem → Cert → CertAnswer → Type 0
IsRawAnswer p cert answer = IsCertAnswer raw_names p cert answer
