-- The numbers of net bits: the places at which they stand among all net bits of a module, by arithmetic.
use Rattle.std.specs.Prelude.{◌≡◌, ℕ, ◌+◌, ◌-◌, min, List, [], ◌∷◌, ◌++◌, map, sum_by, Option, Some, None, if◌then◌else◌}
use Rattle.std.specs.Str.{bytes_eq}
use Rattle.bud_design.specs.Lists.{first_again}
use Rattle.bud_syntax.specs.declared.modules.Range.{Range}
use Rattle.bud_syntax.specs.declared.modules.Module.{Module}
use Rattle.module_nets.specs.Nets.{NetBit, range_of, implicit_nets}

-- how far two numbers are apart, a difference of numbers being 0 where it would be negative
abbrev pub distance : ℕ → ℕ → ℕ
distance a b = (a - b) + (b - a)

-- how many bits a port or net has
abbrev pub range_width : Option Range → ℕ
range_width None = 1
range_width (Some r) = distance r.left r.right + 1

-- how many bits of the net stand before a bit
abbrev pub place_in : Option Range → Option ℕ → ℕ
place_in None bit = 0
place_in (Some r) None = 0
place_in (Some r) (Some n) = distance r.left n

-- a net of a module: a port, a declared net or an implicit net
pub record Net : Type 0 where
  pub name : List ℕ
  pub range : Option Range

abbrev pub net_of : List ℕ → Option Range → Net
net_of name range = record { name = name; range = range }

-- the nets of a module, in the order of their bits
abbrev pub module_nets : Module → List Net
module_nets m = map (λ p. net_of p.name p.range) m.ports ++ (map (λ n. net_of n.name n.range) m.nets ++ map (λ name. net_of name None) (implicit_nets m))

-- how many bits some nets have
abbrev pub bits_in : List Net → ℕ
bits_in nets = sum_by (λ n. range_width n.range) nets

-- how many bits the nets before the net of this name have
abbrev pub bits_before : List Net → List ℕ → ℕ
bits_before [] name = 0
bits_before (n ∷ ns) name = if bytes_eq n.name name then 0 else range_width n.range + bits_before ns name

-- the number of a net bit
abbrev pub bit_number : Module → NetBit → ℕ
bit_number m b = bits_before (module_nets m) b.net + place_in (range_of m b.net) b.bit

-- the names that a module declares: those of its ports, nets and instances
abbrev pub declared_names : Module → List (List ℕ)
declared_names m = map (λ p. p.name) m.ports ++ (map (λ n. n.name) m.nets ++ map (λ i. i.name) m.instances)

-- no name is declared twice
abbrev pub IsNamedApart : Module → Type 0
IsNamedApart m = first_again [] (declared_names m) ≡ None

-- a count that stands still at the end of its type
abbrev pub capped : ℕ → ℕ
capped n = min n 18446744073709551615
