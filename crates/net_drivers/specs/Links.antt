-- Which link joins a port.
use Rattle.std.specs.Prelude.{◌≡◌, ℕ, zero, suc, ◌+◌, ◌-◌, ◌<◌, ◌==◌, nat_le, Bool, true, false, List, [], ◌∷◌, ◌++◌, length, Option, Some, None, slice_index_or, slice_set, if◌then◌else◌}
use Rattle.std.specs.List.{position_from}
use Rattle.std.specs.Str.{bytes_eq}
use Rattle.bud_syntax.specs.declared.modules.Link.{Link}
use Rattle.bud_syntax.specs.declared.modules.Link.TheVariants.{Named, Placed}
use Rattle.bud_syntax.specs.declared.modules.Module.{Module}
use Rattle.bud_syntax.specs.declared.modules.Piece.{Piece}
use Rattle.module_nets.specs.Nets.{pieces_of_link}
use Rattle.module_nets.specs.Headers.{port_called}

abbrev pub is_at : ℕ → Option ℕ → Bool
is_at place None = false
is_at place (Some n) = n == place

-- the place of the first port of the name that the link gives
abbrev pub place_named : Module → Link → Option ℕ
place_named child (Named port pieces) = port_called child port
place_named child (Placed pieces) = None

-- the link names the port at a place, the first of its name
abbrev pub names_port : Module → ℕ → Link → Bool
names_port child place link = is_at place (place_named child link)

abbrev pub names : List ℕ → Link → Bool
names name (Named port pieces) = bytes_eq port name
names name (Placed pieces) = false

-- the numbers of the links that name no port
abbrev pub placed_from : ℕ → List Link → List ℕ
placed_from n [] = []
placed_from n (Named port pieces ∷ links) = placed_from (n + 1) links
placed_from n (Placed pieces ∷ links) = n ∷ placed_from (n + 1) links

abbrev pub noted_if : Option ℕ → ℕ → ℕ → List (Option ℕ) → List (Option ℕ)
noted_if None place number places = slice_set places place (Some number)
noted_if (Some held) place number places = places

-- the first number that is noted at a place stays
abbrev pub noted : Option ℕ → ℕ → List (Option ℕ) → List (Option ℕ)
noted None number places = places
noted (Some place) number places = noted_if (slice_index_or places place None) place number places

-- for each port, the first link that names it, the port being the first of its name
pub record AreNamedLinks (child : Module) (links : List Link) (named : List (Option ℕ)) : Type 0 where
  pub size : length named ≡ length child.ports
  pub each : (place : ℕ) → place < length child.ports → slice_index_or named place None ≡ position_from (names_port child place) 0 links

-- the one that stands before the other
abbrev pub earlier : Option ℕ → Option ℕ → Option ℕ
earlier None b = b
earlier (Some a) None = Some a
earlier (Some a) (Some b) = if nat_le a b then Some a else Some b

-- the element at a place, where there is one
abbrev pub nth : List ℕ → ℕ → Option ℕ
nth [] k = None
nth (n ∷ ns) k = if k == 0 then Some n else nth ns (k - 1)

-- the number of the link that joins the port of this name and place, the first link having a number
abbrev pub link_from : ℕ → List ℕ → ℕ → List Link → Option ℕ
link_from j name k [] = None
link_from j name k (Named port pieces ∷ links) = if bytes_eq port name then Some j else link_from (j + 1) name k links
link_from j name k (Placed pieces ∷ links) = if k == 0 then Some j else link_from (j + 1) name (k - 1) links

-- the pieces of the link of a number
abbrev pub linked_pieces : List Link → Option ℕ → List Piece
linked_pieces links None = []
linked_pieces links (Some n) = pieces_of_link (slice_index_or links n (Placed []))

-- which links join ports, by name and by place
pub record IsJoining (child : Module) (links : List Link) (first : List (Option ℕ)) (others : List ℕ) : Type 0 where
  pub named : AreNamedLinks child links first
  pub placed : others ≡ placed_from 0 links
