-- The nets of a module, bit by bit: ports, declared nets and implicit nets (IEEE 1364), and what joins them.
use Rattle.std.specs.Prelude.{ℕ, suc, ◌+◌, ◌-◌, ◌==◌, ◌&&◌, nat_le, Bool, true, false, List, [], ◌∷◌, ◌++◌, map, reverse, replicate, find, flat_map, Option, Some, None, if◌then◌else◌}
use Rattle.std.specs.List.{range_with_len}
use Rattle.std.specs.Option.{option_or, option_map}
use Rattle.std.specs.Str.{bytes_eq}
use Rattle.bud_syntax.specs.declared.modules.Dir.{Dir}
use Rattle.bud_syntax.specs.declared.modules.Range.{Range}
use Rattle.bud_syntax.specs.declared.modules.Port.{Port}
use Rattle.bud_syntax.specs.declared.modules.Piece.{Piece}
use Rattle.bud_syntax.specs.declared.modules.Piece.TheVariants.{Net, Bit, Part, Const}
use Rattle.bud_syntax.specs.declared.modules.Link.{Link}
use Rattle.bud_syntax.specs.declared.modules.Link.TheVariants.{Named, Placed}
use Rattle.bud_syntax.specs.declared.modules.Instance.{Instance}
use Rattle.bud_syntax.specs.declared.modules.Module.{Module}
use Rattle.bud_design.specs.Lists.{each_once}

-- the numbers from the left bound to the right one
abbrev pub numbers_between : ℕ → ℕ → List ℕ
numbers_between left right = if nat_le left right then range_with_len left (right + 1 - left) else reverse (range_with_len right (left + 1 - right))

-- the bits of a port or net, a scalar's one bit being None
abbrev pub range_bits : Option Range → List (Option ℕ)
range_bits None = None ∷ []
range_bits (Some r) = map (λ n. Some n) (numbers_between r.left r.right)

pub record NetBit : Type 0 where
  pub net : List ℕ
  pub bit : Option ℕ

abbrev pub same_number : Option ℕ → Option ℕ → Bool
same_number None None = true
same_number None (Some n) = false
same_number (Some m) None = false
same_number (Some m) (Some n) = m == n

abbrev pub same_bit : NetBit → NetBit → Bool
same_bit a b = bytes_eq a.net b.net && same_number a.bit b.bit

-- the range of a declared port or net
abbrev pub declared_range : Module → List ℕ → Option (Option Range)
declared_range m name =
    option_or (option_map (λ p. p.range) (find (λ p. bytes_eq p.name name) m.ports))
    (option_map (λ n. n.range) (find (λ n. bytes_eq n.name name) m.nets))

-- an undeclared net is a scalar
abbrev pub or_scalar : Option (Option Range) → Option Range
or_scalar None = None
or_scalar (Some range) = range

abbrev pub range_of : Module → List ℕ → Option Range
range_of m name = or_scalar (declared_range m name)

abbrev pub bit_of : List ℕ → Option ℕ → NetBit
bit_of net bit = record { net = net; bit = bit }

-- the bits of a piece, None for a constant's
abbrev pub piece_bits : Module → Piece → List (Option NetBit)
piece_bits m (Net name) = map (λ b. Some (bit_of name b)) (range_bits (range_of m name))
piece_bits m (Bit name n) = Some (bit_of name (Some n)) ∷ []
piece_bits m (Part name left right) = map (λ n. Some (bit_of name (Some n))) (numbers_between left right)
piece_bits m (Const width) = replicate width None

abbrev pub expression_bits : Module → List Piece → List (Option NetBit)
expression_bits m pieces = flat_map (piece_bits m) pieces

abbrev pub piece_net : Piece → Option (List ℕ)
piece_net (Net name) = Some name
piece_net (Bit name n) = Some name
piece_net (Part name left right) = Some name
piece_net (Const width) = None

abbrev pub names_if : Option (List ℕ) → List (List ℕ)
names_if None = []
names_if (Some name) = name ∷ []

abbrev pub pieces_of_link : Link → List Piece
pieces_of_link (Named port pieces) = pieces
pieces_of_link (Placed pieces) = pieces

-- the pieces of the links in order, then of the assigns, the left side first
abbrev pub pieces_in : Module → List Piece
pieces_in m = flat_map (λ i. flat_map pieces_of_link i.links) m.instances ++ flat_map (λ a. a.left ++ a.right) m.assigns

-- the nets that no declaration names, by first use
abbrev pub implicit_nets : Module → List (List ℕ)
implicit_nets m = each_once (map (λ p. p.name) m.ports ++ map (λ n. n.name) m.nets) (flat_map (λ x. names_if (piece_net x)) (pieces_in m))

abbrev pub net_bits : Module → List ℕ → List NetBit
net_bits m name = map (bit_of name) (range_bits (range_of m name))

-- the bits of the nets that aren't ports, and of all nets
abbrev pub local_bits : Module → List NetBit
local_bits m = flat_map (net_bits m) (map (λ n. n.name) m.nets ++ implicit_nets m)

abbrev pub all_bits : Module → List NetBit
all_bits m = flat_map (net_bits m) (map (λ p. p.name) m.ports) ++ local_bits m

-- a bit of a port, and the bits of a module's ports in their order
pub record PortBit : Type 0 where
  pub port : List ℕ
  pub bit : Option ℕ
  pub dir : Dir

abbrev pub port_bits : Module → List PortBit
port_bits m = flat_map (λ p. map (λ b. record { port = p.name; bit = b; dir = p.dir }) (range_bits p.range)) m.ports

-- what the links join to the port of this name and place
abbrev pub joined_to : List ℕ → ℕ → List Link → List Piece
joined_to name k [] = []
joined_to name k (Named port pieces ∷ links) = if bytes_eq port name then pieces else joined_to name k links
joined_to name k (Placed pieces ∷ links) = if k == 0 then pieces else joined_to name (k - 1) links

-- the net bits at the bits of a port; None at an open port and at a constant
abbrev pub or_open : Option Range → List (Option NetBit) → List (Option NetBit)
or_open range [] = map (λ b. None) (range_bits range)
or_open range (b ∷ bs) = b ∷ bs

abbrev pub joined_from : ℕ → Module → Instance → List Port → List (Option NetBit)
joined_from k m i [] = []
joined_from k m i (p ∷ ps) = or_open p.range (expression_bits m (joined_to p.name k i.links)) ++ joined_from (suc k) m i ps

-- the net bit at each port bit of an instance
abbrev pub joined_bits : Module → Module → Instance → List (Option NetBit)
joined_bits m child i = joined_from 0 m i child.ports

abbrev pub module_called : List Module → List ℕ → Option Module
module_called modules name = find (λ m. bytes_eq m.name name) modules
