-- What the lines of a problem's certificates name.
use Rattle.std.specs.Prelude.{◌≡◌, ℕ, ◌^◌, ◌<◌, ◌⊎◌, List}
use Rattle.std.specs.List.{AllByRecursion}
use Rattle.bud_base.specs.declared.problems.Problem.{Problem}
use Rattle.cert_text.specs.Writing.{IsTextName, IsTextException}
use Rattle.cert_text.specs.declared.certs.CertClass.{CertClass}

pub record Names : Type 0 where
  -- the version of the policy
  pub version : ℕ
  -- the lines of the classes
  pub classes : List CertClass
  -- a node's name, and the number of its class; an item's class is that of its first node
  pub node_name : ℕ → List ℕ
  pub node_class : ℕ → ℕ

-- the class's number and its exceptions are in the ranges of a text
pub record HasClassNumbers (line : CertClass) : Type 0 where
  pub number : line.number.0 < 2 ^ 32
  pub exceptions : AllByRecursion IsTextException line.exceptions

-- they can be written: the version is known, names may stand as fields, and numbers of classes are in the range of a text
pub record AreTextNames (names : Names) (p : Problem) : Type 0 where
  pub version : (names.version ≡ 1) ⊎ (names.version ≡ 2)
  pub clocks : AllByRecursion (λ line. IsTextName line.clock) names.classes
  pub node_names : (n : ℕ) → n < p.nodes → IsTextName (names.node_name n)
  pub node_classes : (n : ℕ) → n < p.nodes → names.node_class n < 2 ^ 32
