-- How a certificate is written, and which certificates have a text.
use Rattle.std.specs.Prelude.{◌≡◌, ℕ, ◌^◌, ◌<◌, ◌==◌, ◌&&◌, ◌⊎◌, true, List, [], ◌∷◌, ◌++◌, Option, Some, None, map, codes, decimal, if◌then◌else◌}
use Rattle.std.specs.List.{flat_map, AllByRecursion}
use Rattle.std.specs.Fmt.{signed_decimal}
use Rattle.line_text.specs.Written.{written, is_field}
use Rattle.line_text.specs.Names.{is_name}
use Rattle.bud_plans.specs.Plans.{IsPlanNumber, IsPlanWeight}
use Rattle.bud_syntax.specs.declared.edges.Edge.{Edge}
use Rattle.bud_syntax.specs.declared.edges.Edge.TheVariants.{Rise, Fall}
use Rattle.cert_text.specs.declared.certs.Cert.{Cert}
use Rattle.cert_text.specs.declared.certs.CertClass.{CertClass}
use Rattle.cert_text.specs.declared.certs.CertException.{CertException}
use Rattle.cert_text.specs.declared.certs.CertNode.{CertNode}
use Rattle.cert_text.specs.declared.certs.CertItem.{CertItem}
use Rattle.cert_text.specs.declared.certs.CertFlow.{CertFlow}

abbrev pub edge_word : Edge → List ℕ
edge_word Rise = codes "rise"
edge_word Fall = codes "fall"

-- N, or N:S
abbrev pub exception_parts : ℕ → Option ℕ → List ℕ
exception_parts number None = decimal number
exception_parts number (Some steps) = decimal number ++ (58 ∷ decimal steps)

abbrev pub exception_field : CertException → List ℕ
exception_field x = exception_parts x.number x.steps

abbrev pub class_fields : CertClass → List (List ℕ)
class_fields x = decimal x.number.0 ∷ x.clock ∷ edge_word x.edge ∷ map exception_field x.exceptions

abbrev pub node_fields : CertNode → List (List ℕ)
node_fields x = x.name ∷ decimal x.class.0 ∷ signed_decimal x.arrival ∷ []

abbrev pub item_fields : CertItem → List (List ℕ)
item_fields x = x.from ∷ x.to ∷ decimal x.class.0 ∷ signed_decimal x.budget ∷ signed_decimal x.flow ∷ []

abbrev pub flow_fields : CertFlow → List (List ℕ)
flow_fields x = x.name ∷ decimal x.class.0 ∷ signed_decimal x.flow ∷ []

abbrev pub class_line : CertClass → List ℕ
class_line x = written (codes "class") (class_fields x)

abbrev pub node_line : CertNode → List ℕ
node_line x = written (codes "node") (node_fields x)

abbrev pub item_line : CertItem → List ℕ
item_line x = written (codes "item") (item_fields x)

abbrev pub start_line : CertFlow → List ℕ
start_line x = written (codes "start") (flow_fields x)

abbrev pub end_line : CertFlow → List ℕ
end_line x = written (codes "end") (flow_fields x)

-- the version of the policy is written from 2 on
abbrev pub header_text : ℕ → List ℕ
header_text policy =
    if policy == 2
    then written (codes "certificate") (codes "2" ∷ []) ++ written (codes "policy") (codes "2" ∷ [])
    else written (codes "certificate") (codes "1" ∷ [])

-- the text that is written for a certificate: one line for each part, in order, with one space between two fields
abbrev pub text_of : Cert → List ℕ
text_of cert =
    header_text cert.policy
    ++ (flat_map class_line cert.classes
    ++ (flat_map node_line cert.nodes
    ++ (flat_map item_line cert.items
    ++ (flat_map start_line cert.starts
    ++ (flat_map end_line cert.ends ++ written (codes "weight") (signed_decimal cert.weight ∷ []))))))

-- the name may stand as a field: it has a byte, none is a blank or a line feed, and none is past 127
abbrev pub IsTextName : List ℕ → Type 0
IsTextName bytes = (is_field bytes && is_name bytes) ≡ true

abbrev pub AreTextSteps : Option ℕ → Type 0
AreTextSteps None = Unit {0}
AreTextSteps (Some steps) = steps < 2 ^ 32

pub record IsTextException (x : CertException) : Type 0 where
  pub number : x.number < 2 ^ 32
  pub steps : AreTextSteps x.steps

pub record IsTextClass (x : CertClass) : Type 0 where
  pub number : x.number.0 < 2 ^ 32
  pub clock : IsTextName x.clock
  pub exceptions : AllByRecursion IsTextException x.exceptions

pub record IsTextNode (x : CertNode) : Type 0 where
  pub name : IsTextName x.name
  pub class : x.class.0 < 2 ^ 32
  pub arrival : IsPlanNumber x.arrival

pub record IsTextItem (x : CertItem) : Type 0 where
  pub from : IsTextName x.from
  pub to : IsTextName x.to
  pub class : x.class.0 < 2 ^ 32
  pub budget : IsPlanNumber x.budget
  pub flow : IsPlanNumber x.flow

pub record IsTextFlow (x : CertFlow) : Type 0 where
  pub name : IsTextName x.name
  pub class : x.class.0 < 2 ^ 32
  pub flow : IsPlanNumber x.flow

-- the policy's version is 1 or 2, the certificate's names may stand as fields, and its numbers are in the ranges of a text
pub record IsInTextRanges (cert : Cert) : Type 0 where
  pub policy : (cert.policy ≡ 1) ⊎ (cert.policy ≡ 2)
  pub classes : AllByRecursion IsTextClass cert.classes
  pub nodes : AllByRecursion IsTextNode cert.nodes
  pub items : AllByRecursion IsTextItem cert.items
  pub starts : AllByRecursion IsTextFlow cert.starts
  pub ends : AllByRecursion IsTextFlow cert.ends
  pub weight : IsPlanWeight cert.weight
