-- The module that a header and the items of a body make.
use Rattle.std.specs.Prelude.{ℕ, ◌==◌, ◌&&◌, ◌||◌, not, nat_lt, Bool, true, false, List, [], ◌∷◌, ◌++◌, map, filter, is_some, Option, Some, None, if◌then◌else◌}
use Rattle.std.specs.List.{list_all, list_any, flat_map}
use Rattle.std.specs.Str.{bytes_eq}
use Rattle.bud_syntax.specs.declared.modules.Dir.{Dir}
use Rattle.bud_syntax.specs.declared.modules.Dir.TheVariants.{Input}
use Rattle.bud_syntax.specs.declared.modules.Range.{Range}
use Rattle.bud_syntax.specs.declared.modules.Port.{Port}
use Rattle.bud_syntax.specs.declared.modules.NetDecl.{NetDecl}
use Rattle.bud_syntax.specs.declared.modules.Assign.{Assign}
use Rattle.bud_syntax.specs.declared.modules.Instance.{Instance}
use Rattle.bud_syntax.specs.declared.modules.Module.{Module}
use Rattle.verilog_reader.specs.declared.trees.Named.{Named}
use Rattle.verilog_reader.specs.declared.trees.Declared.{Declared}
use Rattle.verilog_reader.specs.declared.trees.HeaderPort.{HeaderPort}
use Rattle.verilog_reader.specs.declared.trees.Cell.{Cell}
use Rattle.verilog_reader.specs.declared.trees.Tree.{Tree}
use Rattle.verilog_reader.specs.declared.trees.Assembled.{Assembled}
use Rattle.verilog_reader.specs.declared.trees.Item.{Item}
use Rattle.verilog_reader.specs.declared.trees.Item.TheVariants.{Ports, Nets, Assigns, Cells, Skipped}

-- what a declaration says of a port, with the port's name where it stands there
pub record Declaration : Type 0 where
  pub named : Named
  pub declared : Declared

-- the second, where there is one
abbrev pub or_before : Option Declared → Option Declared → Option Declared
or_before before None = before
or_before before (Some d) = Some d

abbrev pub declaration_of : Named → Option Declared → List Declaration
declaration_of named None = []
declaration_of named (Some d) = record { named = named; declared = d } ∷ []

-- the declarations in a header: a port without one has that of the port before it
abbrev pub header_declarations : Option Declared → List HeaderPort → List Declaration
header_declarations before [] = []
header_declarations before (p ∷ ps) = declaration_of p.named (or_before before p.declared) ++ header_declarations (or_before before p.declared) ps

-- the declarations in a body
abbrev pub declarations_in : Declared → List Named → List Declaration
declarations_in d names = map (λ n. record { named = n; declared = d }) names

abbrev pub item_declarations : Item → List Declaration
item_declarations (Ports d names) = declarations_in d names
item_declarations (Nets _ _ _) = []
item_declarations (Assigns _) = []
item_declarations (Cells _ _) = []
item_declarations Skipped = []

-- the name stands in the header
abbrev pub is_listed : List HeaderPort → List ℕ → Bool
is_listed header name = list_any (λ p. bytes_eq p.named.name name) header

-- what the first declaration of the name says
abbrev pub first_declared : List Declaration → List ℕ → Option Declared
first_declared [] name = None
first_declared (d ∷ ds) name = if bytes_eq d.named.name name then Some d.declared else first_declared ds name

abbrev pub one_if : {X : Type 0} → Bool → X → List X
one_if true x = x ∷ []
one_if false x = []

-- the ports whose name stands before them in the header; `before` is what stands before these
abbrev pub listed_again : List HeaderPort → List HeaderPort → List Named
listed_again before [] = []
listed_again before (p ∷ ps) = one_if (is_listed before p.named.name) p.named ++ listed_again (before ++ p ∷ []) ps

-- the declarations of a name that is declared before them
abbrev pub declared_again : List Declaration → List Declaration → List Named
declared_again before [] = []
declared_again before (d ∷ ds) = one_if (is_some (first_declared before d.named.name)) d.named ++ declared_again (before ++ d ∷ []) ds

-- the ports that have no direction
abbrev pub undirected : (List ℕ → Option Declared) → List HeaderPort → List Named
undirected declared [] = []
undirected declared (p ∷ ps) = one_if (not (is_some (declared p.named.name))) p.named ++ undirected declared ps

-- the one that begins first
abbrev pub earlier : Option Named → Option Named → Option Named
earlier None b = b
earlier (Some a) None = Some a
earlier (Some a) (Some b) = if nat_lt b.at a.at then Some b else Some a

abbrev pub earliest : List Named → Option Named
earliest [] = None
earliest (n ∷ ns) = earlier (Some n) (earliest ns)

-- a port, by its first declaration
abbrev pub dir_in : Option Declared → Dir
dir_in None = Input
dir_in (Some d) = d.dir

abbrev pub range_in : Option Declared → Option Range
range_in None = None
range_in (Some d) = d.range

abbrev pub port_of : (List ℕ → Option Declared) → HeaderPort → Port
port_of declared p = record { name = p.named.name; dir = dir_in (declared p.named.name); range = range_in (declared p.named.name) }

-- the nets that an item declares
abbrev pub nets_in : Bool → Option Range → List Named → List NetDecl
nets_in constant range names = map (λ n. record { name = n.name; range = range; constant = constant }) names

abbrev pub item_nets : Item → List NetDecl
item_nets (Ports _ _) = []
item_nets (Nets constant range names) = nets_in constant range names
item_nets (Assigns _) = []
item_nets (Cells _ _) = []
item_nets Skipped = []

-- a wire that repeats the name of a port makes no net of its own
abbrev pub repeats_port : (List ℕ → Bool) → NetDecl → Bool
repeats_port listed net = not net.constant && listed net.name

abbrev pub is_same_range : Option Range → Option Range → Bool
is_same_range None None = true
is_same_range None (Some _) = false
is_same_range (Some _) None = false
is_same_range (Some a) (Some b) = a.left == b.left && a.right == b.right

-- it has the range of the port's first declaration, or the port has none
abbrev pub suits : Option Range → Option Declared → Bool
suits range None = true
suits range (Some d) = is_same_range range d.range

abbrev pub agrees : (List ℕ → Bool) → (List ℕ → Option Declared) → NetDecl → Bool
agrees listed declared net = not (repeats_port listed net) || suits net.range (declared net.name)

abbrev pub item_assigns : Item → List Assign
item_assigns (Ports _ _) = []
item_assigns (Nets _ _ _) = []
item_assigns (Assigns assigns) = assigns
item_assigns (Cells _ _) = []
item_assigns Skipped = []

abbrev pub instance_of : List ℕ → Cell → Instance
instance_of module_name cell = record { «module» = module_name; name = cell.name; links = cell.links }

abbrev pub item_instances : Item → List Instance
item_instances (Ports _ _) = []
item_instances (Nets _ _ _) = []
item_instances (Assigns _) = []
item_instances (Cells module_name cells) = map (instance_of module_name) cells
item_instances Skipped = []

-- all declarations of ports, those in the header first
abbrev pub declarations : Tree → List Declaration
declarations tree = header_declarations None tree.header ++ flat_map item_declarations tree.items

-- each name that the body declares as a port stands in the header, and each wire that repeats a port has its range
abbrev pub is_formed : Tree → Bool
is_formed tree =
    list_all (λ d. is_listed tree.header d.named.name) (flat_map item_declarations tree.items)
    && list_all (agrees (is_listed tree.header) (first_declared (declarations tree))) (flat_map item_nets tree.items)

-- the breaches: ports that are listed twice, then those that are declared twice, then those without a direction
abbrev pub breaches : Tree → List Named
breaches tree =
    listed_again [] tree.header
    ++ (declared_again (header_declarations None tree.header) (flat_map item_declarations tree.items)
    ++ undirected (first_declared (declarations tree)) tree.header)

abbrev pub module_of : Tree → Module
module_of tree = record {
  name = tree.name;
  leaf = tree.leaf;
  ports = map (port_of (first_declared (declarations tree))) tree.header;
  nets = filter (λ n. not (repeats_port (is_listed tree.header) n)) (flat_map item_nets tree.items);
  assigns = flat_map item_assigns tree.items;
  instances = flat_map item_instances tree.items;
}

-- the module, and its breach that begins first
unfoldable pub assembled : Tree → Option Assembled
assembled tree = if is_formed tree then Some (record { «module» = module_of tree; fault = earliest (breaches tree) }) else None
