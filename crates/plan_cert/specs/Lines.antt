-- The lines of a certificate, and when they name what a problem has.
use Rattle.std.specs.Prelude.{◌≡◌, ℕ, pos, List, [], slice_index_or}
use Rattle.bud_base.specs.Paths.{item_at, start_at, end_at}
use Rattle.bud_base.specs.declared.problems.Item.{Item}
use Rattle.bud_base.specs.declared.problems.Start.{Start}
use Rattle.bud_base.specs.declared.problems.End.{End}
use Rattle.bud_syntax.specs.declared.edges.Edge.TheVariants.{Rise}
use Rattle.plan_cert.specs.Names.{Names}
use Rattle.cert_text.specs.declared.certs.CertClass.{CertClass}
use Rattle.cert_text.specs.declared.certs.CertNode.{CertNode}
use Rattle.cert_text.specs.declared.certs.CertItem.{CertItem}
use Rattle.cert_text.specs.declared.certs.CertFlow.{CertFlow}

-- lines without names, whose numbers are 0
abbrev pub no_class : CertClass
no_class = record { number = record { 0 = 0 }; clock = []; edge = Rise; exceptions = [] }

abbrev pub no_node : CertNode
no_node = record { name = []; class = record { 0 = 0 }; arrival = pos 0 }

abbrev pub no_item : CertItem
no_item = record { from = []; to = []; class = record { 0 = 0 }; budget = pos 0; flow = pos 0 }

abbrev pub no_flow : CertFlow
no_flow = record { name = []; class = record { 0 = 0 }; flow = pos 0 }

-- the line of a number below the list's length
abbrev pub class_line : List CertClass → ℕ → CertClass
class_line lines k = slice_index_or lines k no_class

abbrev pub node_line : List CertNode → ℕ → CertNode
node_line lines k = slice_index_or lines k no_node

abbrev pub item_line : List CertItem → ℕ → CertItem
item_line lines i = slice_index_or lines i no_item

abbrev pub flow_line : List CertFlow → ℕ → CertFlow
flow_line lines k = slice_index_or lines k no_flow

-- the line names the node, or the item's nodes, and its class
pub record NamesNode (names : Names) (line : CertNode) (node : ℕ) : Type 0 where
  pub name : line.name ≡ names.node_name node
  pub class : line.class.0 ≡ names.node_class node

pub record NamesItem (names : Names) (line : CertItem) (item : Item) : Type 0 where
  pub from : line.from ≡ names.node_name item.from.0
  pub to : line.to ≡ names.node_name item.to.0
  pub class : line.class.0 ≡ names.node_class item.from.0

pub record NamesFlow (names : Names) (line : CertFlow) (node : ℕ) : Type 0 where
  pub name : line.name ≡ names.node_name node
  pub class : line.class.0 ≡ names.node_class node

-- the line of this number is that of the class, node, item, start or end of the number
abbrev pub IsClassLine : List CertClass → List CertClass → ℕ → Type 0
IsClassLine classes lines k = class_line lines k ≡ class_line classes k

abbrev pub IsNodeLine : Names → List CertNode → ℕ → Type 0
IsNodeLine names lines k = NamesNode names (node_line lines k) k

abbrev pub IsItemLine : Names → List Item → List CertItem → ℕ → Type 0
IsItemLine names items lines i = NamesItem names (item_line lines i) (item_at items i)

abbrev pub IsStartLine : Names → List Start → List CertFlow → ℕ → Type 0
IsStartLine names starts lines s = NamesFlow names (flow_line lines s) (start_at starts s).node.0

abbrev pub IsEndLine : Names → List End → List CertFlow → ℕ → Type 0
IsEndLine names ends lines e = NamesFlow names (flow_line lines e) (end_at ends e).node.0
