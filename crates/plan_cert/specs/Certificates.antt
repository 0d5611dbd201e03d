-- Certificates over the names of their lines: when they hold, and what a check answers.
use Rattle.std.specs.Prelude.{◌≡◌, ◌≢◌, ℕ, length, min}
use Rattle.bud_base.specs.Paths.{item_at, start_at, end_at}
use Rattle.bud_base.specs.declared.problems.Problem.{Problem}
use Rattle.bud_plans.specs.Plans.{IsHolding}
use Rattle.plan_cert.specs.Names.{Names}
use Rattle.plan_cert.specs.Lines.{IsClassLine, IsNodeLine, IsItemLine, IsStartLine, IsEndLine}
use Rattle.plan_cert.specs.Failures.{AllBelow, IsFirstFailure}
use Rattle.plan_cert.specs.Numbers.{HasCounts, IsWrongNumber}
use Rattle.cert_text.specs.Certs.{plan_in}
use Rattle.cert_text.specs.declared.certs.Cert.{Cert}
use Rattle.plan_cert.specs.declared.answers.CertAnswer.{CertAnswer}
use Rattle.plan_cert.specs.declared.answers.CertAnswer.TheVariants.{Holds, Fault}
use Rattle.plan_cert.specs.declared.answers.CertFault.{CertFault}
use Rattle.plan_cert.specs.declared.answers.CertFault.TheVariants.{Version, Shape}
use Rattle.plan_cert.specs.declared.answers.CertPlace.{CertPlace}
use Rattle.plan_cert.specs.declared.answers.CertPlace.TheVariants.{Class, Node, Item, Start, End, Count}

-- ---- lines
-- up to the shorter of the certificate's list and the problem's each line is the problem's
abbrev pub HasClassLines : Names → Cert → Type 0
HasClassLines names cert = AllBelow (IsClassLine names.classes cert.classes) (min (length names.classes) (length cert.classes))

abbrev pub HasNodeLines : Names → Problem → Cert → Type 0
HasNodeLines names p cert = AllBelow (IsNodeLine names cert.nodes) (min p.nodes (length cert.nodes))

abbrev pub HasItemLines : Names → Problem → Cert → Type 0
HasItemLines names p cert = AllBelow (IsItemLine names p.items cert.items) (min (length p.items) (length cert.items))

abbrev pub HasStartLines : Names → Problem → Cert → Type 0
HasStartLines names p cert = AllBelow (IsStartLine names p.starts cert.starts) (min (length p.starts) (length cert.starts))

abbrev pub HasEndLines : Names → Problem → Cert → Type 0
HasEndLines names p cert = AllBelow (IsEndLine names p.ends cert.ends) (min (length p.ends) (length cert.ends))

-- there are as many lines as there are classes, nodes, items, starts and ends
pub record HasLineCounts (names : Names) (p : Problem) (cert : Cert) : Type 0 where
  pub classes : length cert.classes ≡ length names.classes
  pub others : HasCounts p cert

-- the lines are those of the problem, in its order and with its names
pub record HasLines (names : Names) (p : Problem) (cert : Cert) : Type 0 where
  pub classes : HasClassLines names cert
  pub nodes : HasNodeLines names p cert
  pub items : HasItemLines names p cert
  pub starts : HasStartLines names p cert
  pub ends : HasEndLines names p cert
  pub counts : HasLineCounts names p cert

-- the certificate holds for the problem: it is for the policy's version, its lines are the problem's, and its plan holds
pub record IsCertOf (names : Names) (p : Problem) (cert : Cert) : Type 0 where
  pub version : cert.policy ≡ names.version
  pub lines : HasLines names p cert
  pub plan : IsHolding p (plan_in cert)

-- ---- faults, each where no earlier one stands
-- the first line that isn't the problem's
abbrev pub IsWrongLine : Names → Problem → Cert → CertPlace → Type 0
IsWrongLine names p cert (Class k) = IsFirstFailure (IsClassLine names.classes cert.classes) (min (length names.classes) (length cert.classes)) k
IsWrongLine names p cert (Node k) = HasClassLines names cert × IsFirstFailure (IsNodeLine names cert.nodes) (min p.nodes (length cert.nodes)) k
IsWrongLine names p cert (Item i) =
    HasClassLines names cert × HasNodeLines names p cert
    × IsFirstFailure (IsItemLine names p.items cert.items) (min (length p.items) (length cert.items)) i
IsWrongLine names p cert (Start s) =
    HasClassLines names cert × HasNodeLines names p cert × HasItemLines names p cert
    × IsFirstFailure (IsStartLine names p.starts cert.starts) (min (length p.starts) (length cert.starts)) s
IsWrongLine names p cert (End e) =
    HasClassLines names cert × HasNodeLines names p cert × HasItemLines names p cert × HasStartLines names p cert
    × IsFirstFailure (IsEndLine names p.ends cert.ends) (min (length p.ends) (length cert.ends)) e
IsWrongLine names p cert Count =
    HasClassLines names cert × HasNodeLines names p cert × HasItemLines names p cert × HasStartLines names p cert × HasEndLines names p cert
    × (HasLineCounts names p cert → ⊥)

-- the certificate's first fault: of its version, of its lines, and then of its numbers
abbrev pub IsCertFault : Names → Problem → Cert → CertFault → Type 0
IsCertFault names p cert (Version of_policy written) = (of_policy ≡ names.version) × (written ≡ cert.policy) × (of_policy ≢ written)
IsCertFault names p cert (Shape place) = (cert.policy ≡ names.version) × IsWrongLine names p cert place
IsCertFault names p cert other = (cert.policy ≡ names.version) × HasLines names p cert × IsWrongNumber p (plan_in cert) other

-- the certificate holds and its weight, or its first fault
abbrev pub IsCertAnswer : Names → Problem → Cert → CertAnswer → Type 0
IsCertAnswer names p cert (Holds weight) = IsCertOf names p cert × (cert.weight ≡ weight)
IsCertAnswer names p cert (Fault fault) = IsCertFault names p cert fault

-- ---- what the lines speak of
-- each node that the problem speaks of is such
pub record AreNamed (Has : ℕ → Type 0) (p : Problem) : Type 0 where
  pub nodes : AllBelow Has p.nodes
  pub items : AllBelow (λ i. Has (item_at p.items i).from.0 × Has (item_at p.items i).to.0) (length p.items)
  pub starts : AllBelow (λ s. Has (start_at p.starts s).node.0) (length p.starts)
  pub ends : AllBelow (λ e. Has (end_at p.ends e).node.0) (length p.ends)
