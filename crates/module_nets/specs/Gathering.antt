-- The nets of a module as they are gathered: ports, then declared nets, then implicit nets by first use.
use Rattle.std.specs.Prelude.{◌≡◌, ℕ, ◌+◌, List, [], ◌∷◌, ◌++◌, map, Option, Some, None, if◌then◌else◌}
use Rattle.std.specs.List.{flat_map}
use Rattle.std.specs.Str.{bytes_eq}
use Rattle.bud_design.specs.Lists.{has_name}
use Rattle.bud_syntax.specs.declared.modules.Piece.{Piece}
use Rattle.bud_syntax.specs.declared.modules.Link.{Link}
use Rattle.bud_syntax.specs.declared.modules.Instance.{Instance}
use Rattle.bud_syntax.specs.declared.modules.Assign.{Assign}
use Rattle.module_nets.specs.Nets.{names_if, piece_net, pieces_of_link}
use Rattle.module_nets.specs.Numbers.{Net, net_of, range_width, bits_in, capped}
use Rattle.module_nets.specs.Tables.{known}
use Rattle.module_nets.specs.declared.gathering.NetPlace.{NetPlace}
use Rattle.module_nets.specs.declared.gathering.Gathered.{Gathered}

-- the range of the first net of a name and the number of its first bit
abbrev pub place_among : ℕ → List Net → List ℕ → Option NetPlace
place_among before [] name = None
place_among before (n ∷ ns) name =
    if bytes_eq n.name name then Some (record { range = n.range; first = capped before }) else place_among (before + range_width n.range) ns name

-- these ports, and these nets that are no ports, are gathered
pub record Gathers (ports nets : List Net) (g : Gathered) : Type 0 where
  pub places : (q : List ℕ) → known g.places q ≡ place_among 0 (ports ++ nets) q
  pub bits : g.bits ≡ capped (bits_in (ports ++ nets))
  pub local : g.local ≡ capped (bits_in nets)
  pub names : map (λ n. n.now) g.names.items ≡ map (λ n. n.name) (ports ++ nets)

-- the nets with those that are used and weren't among them
abbrev pub with_use : List Net → List Net → List ℕ → List Net
with_use ports nets name = if has_name (map (λ n. n.name) (ports ++ nets)) name then nets else nets ++ net_of name None ∷ []

abbrev pub with_uses : List Net → List Net → List (List ℕ) → List Net
with_uses ports nets [] = nets
with_uses ports nets (name ∷ names) = with_uses ports (with_use ports nets name) names

-- the nets that pieces, links, instances and assigns use
abbrev pub used_by_pieces : List Piece → List (List ℕ)
used_by_pieces pieces = flat_map (λ x. names_if (piece_net x)) pieces

abbrev pub used_by_link : Link → List (List ℕ)
used_by_link link = used_by_pieces (pieces_of_link link)

abbrev pub used_by_instance : Instance → List (List ℕ)
used_by_instance instance = flat_map used_by_link instance.links

abbrev pub used_by_assign : Assign → List (List ℕ)
used_by_assign assign = used_by_pieces assign.left ++ used_by_pieces assign.right
