-- Certificates of designs: nodes are named by pins, and classes have lines.
use Rattle.std.specs.Prelude.{◌≡◌, ◌⊎◌, ℕ, suc, ◌<◌, nat_lt, All, Bool, List, [], ◌∷◌, Option, Some, None, map, length, slice_index_or, if◌then◌else◌}
use Rattle.bud_base.specs.Paths.{item_at}
use Rattle.bud_design.specs.declared.clocks.Constraints.{Constraints}
use Rattle.bud_design.specs.declared.clocks.Exception.{Exception}
use Rattle.bud_design.specs.declared.layers.Class.{Class}
use Rattle.bud_design.specs.declared.layers.LayerNode.{LayerNode}
use Rattle.bud_design.specs.declared.layers.Layered.{Layered}
use Rattle.bud_design.specs.declared.layers.Met.{Met}
use Rattle.bud_design.specs.Clocks.{clock_at}
use Rattle.bud_design.specs.Designs.{Design, pin_name}
use Rattle.bud_design.specs.Exceptions.{groups_of}
use Rattle.bud_design.specs.TimingRules.{IsSoundLayered}
use Rattle.cert_text.specs.Writing.{IsTextName}
use Rattle.cert_text.specs.declared.certs.Cert.{Cert}
use Rattle.cert_text.specs.declared.certs.CertClass.{CertClass}
use Rattle.cert_text.specs.declared.certs.CertException.{CertException}
use Rattle.plan_cert.specs.Names.{Names}
use Rattle.plan_cert.specs.Certificates.{HasLines, IsCertOf, IsCertFault, IsCertAnswer}
use Rattle.plan_cert.specs.declared.answers.CertAnswer.{CertAnswer}
use Rattle.plan_cert.specs.declared.answers.CertFault.{CertFault}

-- ---- the lines of classes
abbrev pub has_groups : List Exception → ℕ → Bool
has_groups exceptions number = nat_lt 0 (length (groups_of exceptions number))

-- an exception with groups is written with how many of them are met
abbrev pub steps_of : List Exception → Met → Option ℕ
steps_of exceptions m = if has_groups exceptions m.number then Some m.steps else None

abbrev pub exception_line : List Exception → Met → CertException
exception_line exceptions m = record { number = m.number; steps = steps_of exceptions m }

-- a class by its number, its clock's name, its edge and the exceptions whose from-part it meets
abbrev pub class_line_of : Constraints → ℕ → Class → CertClass
class_line_of all number k = record {
  number = record { 0 = number };
  clock = (clock_at all.clocks k.clock).name;
  edge = k.edge;
  exceptions = map (exception_line all.exceptions) k.exceptions;
}

-- classes that are numbered from this number on
abbrev pub class_lines : Constraints → ℕ → List Class → List CertClass
class_lines all number [] = []
class_lines all number (k ∷ ks) = class_line_of all number k ∷ class_lines all (suc number) ks

-- ---- names
abbrev pub node_at : List LayerNode → ℕ → LayerNode
node_at nodes n = slice_index_or nodes n (record { pin = record { 0 = 0 }; «class» = record { 0 = 0 } })

-- the policy's version, the lines of the classes, and for each node its pin's printed name and its class's number
abbrev pub design_names : Layered → Design → Constraints → Names
design_names layered d all = record {
  version = layered.version;
  classes = class_lines all 0 layered.classes;
  node_name = λ n. pin_name d 0 (node_at layered.nodes n).pin.0;
  node_class = λ n. (node_at layered.nodes n).«class».0;
}

-- the class of an item's first node, and the item's own
abbrev pub class_of_item : Layered → ℕ → ℕ
class_of_item layered i = (node_at layered.nodes (item_at layered.problem.items i).from.0).«class».0

abbrev pub item_class : Layered → ℕ → ℕ
item_class layered i = (slice_index_or layered.items i (record { arc = record { 0 = 0 }; «class» = record { 0 = 0 } })).«class».0

-- there is such a node, and its pin is the design's
pub record HasPin (layered : Layered) (d : Design) (n : ℕ) : Type 0 where
  pub node : n < length layered.nodes
  pub pin : (node_at layered.nodes n).pin.0 < length d.pins

-- a layering of the design
abbrev pub IsOfDesign : Layered → Design → Type 0
IsOfDesign layered d = (arcs : ℕ) × IsSoundLayered (length d.pins) arcs layered

-- what can be written: the version is known, and the names of pins and clocks may stand as fields
pub record HasTextNames (layered : Layered) (d : Design) (all : Constraints) : Type 0 where
  pub version : (layered.version ≡ 1) ⊎ (layered.version ≡ 2)
  pub pins : (v : ℕ) → v < length d.pins → IsTextName (pin_name d 0 v)
  pub clocks : All (λ c. IsTextName c.name) all.clocks
  pub classes : All (λ k. k.clock < length all.clocks) layered.classes

-- ---- certificates
-- the lines are those of the layering, in its order and with its names
abbrev pub HasDesignLines : Layered → Design → Constraints → Cert → Type 0
HasDesignLines layered d all = HasLines (design_names layered d all) layered.problem

-- the certificate holds for the layering
abbrev pub IsDesignCert : Layered → Design → Constraints → Cert → Type 0
IsDesignCert layered d all = IsCertOf (design_names layered d all) layered.problem

-- the certificate's first fault
abbrev pub IsDesignFault : Layered → Design → Constraints → Cert → CertFault → Type 0
IsDesignFault layered d all cert fault = IsCertFault (design_names layered d all) layered.problem cert fault

-- the certificate holds and its weight, or its first fault
abbrev pub IsDesignAnswer : Layered → Design → Constraints → Cert → CertAnswer → Type 0
IsDesignAnswer layered d all cert answer = IsCertAnswer (design_names layered d all) layered.problem cert answer
