-- What is printed of a certificate: of a raw problem by numbers, of a design by the names of its pins.
use Rattle.std.specs.Prelude.{ℕ, ℤ, ◌<◌, List, [], ◌∷◌, ◌++◌, codes, decimal, length}
use Rattle.std.specs.Fmt.{signed_decimal}
use Rattle.bud_base.specs.Paths.{item_at, start_at, end_at}
use Rattle.bud_base.specs.declared.problems.Problem.{Problem}
use Rattle.bud_base.specs.declared.problems.Item.{Item}
use Rattle.plan_cert.specs.declared.answers.CertFault.{CertFault}
use Rattle.plan_cert.specs.declared.answers.CertFault.TheVariants.{Version, Shape, Bounds, Arrival, Start as LateStart, End as LateEnd, NegativeFlow, Balance, Weight}
use Rattle.plan_cert.specs.declared.answers.CertPlace.{CertPlace}
use Rattle.plan_cert.specs.declared.answers.CertPlace.TheVariants.{Class, Node, Item as ItemLine, Start, End, Count}
use Rattle.bud_design.specs.declared.layers.Layered.{Layered}
use Rattle.bud_design.specs.Designs.{Design, pin_name}
use Rattle.budget_report.specs.DesignPaths.{pin_of, class_of_node, IsOfDesign}
use Rattle.budget_report.specs.Lines.{line, no_class}
use Rattle.budget_report.specs.Subjects.{Subject, bare, raw, pins, design, problem_of}

-- the certificate holds, with this weight
abbrev pub holds_text : ℤ → List ℕ
holds_text weight = line (codes "holds" ∷ signed_decimal weight ∷ [])

-- a node of a design by its pin's printed name and its class's number, and an item by its nodes and the class of the first
abbrev pub named_node : Layered → Design → ℕ → List (List ℕ)
named_node layered d n = pin_name d 0 (pin_of layered n) ∷ decimal (class_of_node layered n) ∷ []

abbrev pub named_item : Layered → Design → Item → List (List ℕ)
named_item layered d x = pin_name d 0 (pin_of layered x.from.0) ∷ pin_name d 0 (pin_of layered x.to.0) ∷ decimal (class_of_node layered x.from.0) ∷ []

-- those of a raw problem by their numbers
abbrev pub numbered_node : ℕ → List (List ℕ)
numbered_node n = decimal n ∷ no_class ∷ []

abbrev pub numbered_item : Item → List (List ℕ)
numbered_item x = decimal x.from.0 ∷ decimal x.to.0 ∷ no_class ∷ []

abbrev pub node_words : Subject → ℕ → List (List ℕ)
node_words bare n = []
node_words (raw problem) n = numbered_node n
node_words (pins d) n = []
node_words (design layered d all) n = named_node layered d n

abbrev pub item_words : Subject → Item → List (List ℕ)
item_words bare x = []
item_words (raw problem) x = numbered_item x
item_words (pins d) x = []
item_words (design layered d all) x = named_item layered d x

-- a word, and a node and its class
abbrev pub node_fields : Subject → List ℕ → ℕ → List (List ℕ)
node_fields subject word node = codes "certificate" ∷ word ∷ node_words subject node

-- a word, and an item's nodes and its class
abbrev pub item_fields : Subject → List ℕ → Item → List (List ℕ)
item_fields subject word x = codes "certificate" ∷ word ∷ item_words subject x

-- a flow below 0 stands at an item, a start or an end
abbrev pub negative_fields : Subject → CertPlace → List (List ℕ)
negative_fields subject (ItemLine i) = item_fields subject (codes "negative") (item_at (problem_of subject).items i)
negative_fields subject (Start s) = node_fields subject (codes "negative") (start_at (problem_of subject).starts s).node.0
negative_fields subject (End e) = node_fields subject (codes "negative") (end_at (problem_of subject).ends e).node.0
negative_fields subject (Class k) = []
negative_fields subject (Node k) = []
negative_fields subject Count = []

-- the budgets' weight, and the number that differs from it
abbrev pub weight_fields : ℤ → ℤ → List (List ℕ)
weight_fields weight other = codes "certificate" ∷ codes "weight" ∷ signed_decimal weight ∷ signed_decimal other ∷ []

-- the versions of the policy and of the certificate
abbrev pub version_fields : ℕ → ℕ → List (List ℕ)
version_fields of_policy written = codes "certificate" ∷ codes "version" ∷ decimal of_policy ∷ decimal written ∷ []

-- the first fault of a certificate
abbrev pub cert_fields : Subject → CertFault → List (List ℕ)
cert_fields subject (Version of_policy written) = version_fields of_policy written
cert_fields subject (Shape place) = codes "certificate" ∷ codes "shape" ∷ []
cert_fields subject (Bounds i) = item_fields subject (codes "bounds") (item_at (problem_of subject).items i.0)
cert_fields subject (Arrival i) = item_fields subject (codes "arrival") (item_at (problem_of subject).items i.0)
cert_fields subject (LateStart s) = node_fields subject (codes "start") (start_at (problem_of subject).starts s).node.0
cert_fields subject (LateEnd e) = node_fields subject (codes "end") (end_at (problem_of subject).ends e).node.0
cert_fields subject (NegativeFlow place) = negative_fields subject place
cert_fields subject (Balance n) = node_fields subject (codes "balance") n.0
cert_fields subject (Weight weight other) = weight_fields weight other

-- the place is an item, a start or an end of the problem
abbrev pub IsPlace : Problem → CertPlace → Type 0
IsPlace p (ItemLine i) = i < length p.items
IsPlace p (Start s) = s < length p.starts
IsPlace p (End e) = e < length p.ends
IsPlace p (Class k) = ⊥
IsPlace p (Node k) = ⊥
IsPlace p Count = ⊥

-- what the fault names is the problem's
abbrev pub IsNamed : Problem → CertFault → Type 0
IsNamed p (Version of_policy written) = Unit {0}
IsNamed p (Shape place) = Unit {0}
IsNamed p (Bounds i) = i.0 < length p.items
IsNamed p (Arrival i) = i.0 < length p.items
IsNamed p (LateStart s) = s < length p.starts
IsNamed p (LateEnd e) = e < length p.ends
IsNamed p (NegativeFlow place) = IsPlace p place
IsNamed p (Balance n) = Unit {0}
IsNamed p (Weight weight other) = Unit {0}

-- the node out of balance is the layering's
abbrev pub HasNode : Subject → CertFault → Type 0
HasNode (design layered d all) (Balance n) = n.0 < layered.problem.nodes
HasNode subject other = Unit {0}

-- the subject has a layering of its design, where it has one
abbrev pub IsLaidOut : Subject → Type 0
IsLaidOut bare = Unit {0}
IsLaidOut (raw problem) = Unit {0}
IsLaidOut (pins d) = Unit {0}
IsLaidOut (design layered d all) = IsOfDesign layered d

-- what the fault names is the subject's
pub record IsOf (subject : Subject) (fault : CertFault) : Type 0 where
  pub named : IsNamed (problem_of subject) fault
  pub node : HasNode subject fault
  pub laid_out : IsLaidOut subject

-- a node, or an item's nodes, are those of the design that is spoken of
abbrev pub HasNodeOf : Subject → ℕ → Type 0
HasNodeOf bare n = Unit {0}
HasNodeOf (raw problem) n = Unit {0}
HasNodeOf (pins d) n = Unit {0}
HasNodeOf (design layered d all) n = IsOfDesign layered d × (n < length layered.nodes)

abbrev pub HasItemOf : Subject → Item → Type 0
HasItemOf subject x = HasNodeOf subject x.from.0 × HasNodeOf subject x.to.0
