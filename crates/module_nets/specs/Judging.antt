-- The refusals of one link, and what is known of the links before it.
use Rattle.std.specs.Prelude.{◌≡◌, ◌==◌, ◌||◌, ℕ, Bool, false, length, get_or, map, reverse, List, [], ◌∷◌, Option, Some}
use Rattle.std.specs.Option.{option_or}
use Rattle.bud_design.specs.Lists.{has_name}
use Rattle.bud_syntax.specs.declared.modules.Link.{Link}
use Rattle.bud_syntax.specs.declared.modules.Link.TheVariants.{Named, Placed}
use Rattle.bud_syntax.specs.declared.modules.Port.{Port}
use Rattle.bud_syntax.specs.declared.modules.Module.{Module}
use Rattle.bud_design.specs.Names.{printed}
use Rattle.module_nets.specs.declared.faults.ElabFault.{ElabFault}
use Rattle.module_nets.specs.declared.faults.ElabFault.TheVariants.{UnknownPort}
use Rattle.module_nets.specs.Entering.{Entry, printed_in, joined_fault, free_port, port_in_place, select_fault, port_width_fault, is_open}
use Rattle.module_nets.specs.Nets.{expression_bits, range_bits}
use Rattle.bud_syntax.specs.declared.modules.Assign.{Assign}
use Rattle.bud_syntax.specs.declared.modules.Piece.{Piece}
use Rattle.module_nets.specs.Headers.{port_called}
use Rattle.module_nets.specs.Tops.{module_at}

-- the entry of a module at a path, the modules that are being entered left out
abbrev pub entry_at : Module → List (List ℕ) → Entry
entry_at m path = record { «module» = m; path = path; entered = [] }

-- the entry of a module at a path below modules of these numbers, the first the top's
abbrev pub entry_in : List Module → Module → List (List ℕ) → List ℕ → Entry
entry_in modules m path entered = record { «module» = m; path = path; entered = map (λ n. (module_at modules n).name) (reverse entered) }

-- what is refused of one link behind links that named these ports
abbrev pub link_fault : Entry → List Port → List ℕ → List (List ℕ) → ℕ → Link → Option ElabFault
link_fault e ports instance linked k (Named port pieces) = joined_fault e (UnknownPort (printed port)) (free_port linked ports port) pieces
link_fault e ports instance linked k (Placed pieces) = joined_fault e (UnknownPort (printed_in e instance)) (port_in_place ports k) pieces

abbrev pub linked_by : Link → List (List ℕ) → List (List ℕ)
linked_by (Named port pieces) linked = port ∷ linked
linked_by (Placed pieces) linked = linked

-- the ports named by links, the last first
abbrev pub linked_behind : List (List ℕ) → List Link → List (List ℕ)
linked_behind linked [] = linked
linked_behind linked (link ∷ links) = linked_behind (linked_by link linked) links

-- the flags of a module's ports say which of them are linked
pub record Flags (child : Module) (linked : List (List ℕ)) (flags : List Bool) : Type 0 where
  pub each : length flags ≡ length child.ports
  pub marks : (q : List ℕ) (j : ℕ) → port_called child q ≡ Some j → get_or flags j false ≡ has_name linked q

-- the pieces are as wide as the port, or none
abbrev pub fits : Module → Port → List Piece → Bool
fits m p pieces = is_open pieces || length (expression_bits m pieces) == length (range_bits p.range)

-- what is refused of pieces that are joined to a port
abbrev pub port_fault : Entry → Port → List Piece → Option ElabFault
port_fault e p pieces = option_or (select_fault e pieces) (port_width_fault e p pieces)

-- the sides of the assign are as wide as one another
abbrev pub are_equal : Module → Assign → Bool
are_equal m a = length (expression_bits m a.left) == length (expression_bits m a.right)
