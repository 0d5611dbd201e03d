-- The flat design: its places, pins and wires (after elaboration, IEEE 1364), and their names below a root.
use Rattle.std.specs.Prelude.{◌≡◌, ℕ, zero, suc, ◌==◌, ◌&&◌, not, Bool, true, false, List, [], ◌∷◌, ◌++◌, map, reverse, length, take_while, filter, find, Option, Some, None, slice_index_or}
use Rattle.std.specs.List.{list_any, join_with_byte, range_with_len}
use Rattle.std.specs.Option.{option_map}
use Rattle.std.specs.Str.{bytes_eq}
use Rattle.bud_syntax.specs.declared.modules.Dir.{Dir}
use Rattle.bud_syntax.specs.declared.modules.Dir.TheVariants.{Input, Output, Inout}
use Rattle.bud_design.specs.declared.designs.Place.{Place}
use Rattle.bud_design.specs.declared.designs.Pin.{Pin}
use Rattle.bud_design.specs.declared.designs.Wire.{Wire}
use Rattle.bud_design.specs.Names.{Named, bit_name}

-- The root is the place whose design is meant: 0 for the whole design, a block's place for the design of the block.

pub record Design : Type 0 where
  pub places : List Place
  pub pins : List Pin
  pub wires : List Wire

-- the place or pin of a number below the list's length
abbrev pub place_at : List Place → ℕ → Place
place_at places p = slice_index_or places p (record { name = []; «module» = []; leaf = false; parent = None })

abbrev pub pin_at : List Pin → ℕ → Pin
pin_at pins v = slice_index_or pins v (record { place = 0; port = []; bit = None; dir = Input })

abbrev pub above : (ℕ → List ℕ) → Option ℕ → List ℕ
above up None = []
above up (Some p) = up p

-- a place, its parent, and so on, at most so many
abbrev pub upwards : ℕ → List Place → ℕ → List ℕ
upwards zero places p = []
upwards (suc n) places p = p ∷ above (upwards n places) (place_at places p).parent

-- a place, its parent, and so on up to the top: parents have lower numbers
abbrev pub lineage : List Place → ℕ → List ℕ
lineage places p = upwards (suc p) places p

-- the place is the root or lies below it
abbrev pub is_inside : List Place → ℕ → ℕ → Bool
is_inside places root p = list_any (λ q. q == root) (lineage places p)

-- the identifiers of the instances on the way from the root down to a place
abbrev pub way_down : List Place → ℕ → ℕ → List (List ℕ)
way_down places root p = reverse (map (λ q. (place_at places q).name) (take_while (λ q. not (q == root)) (lineage places p)))

-- the printed name of a place or a pin below the root: identifiers joined by `/`
abbrev pub place_name : List Place → ℕ → ℕ → List ℕ
place_name places root p = join_with_byte 47 (way_down places root p)

abbrev pub pin_name : Design → ℕ → ℕ → List ℕ
pin_name d root v = join_with_byte 47 (way_down d.places root (pin_at d.pins v).place ++ bit_name (pin_at d.pins v).port (pin_at d.pins v).bit ∷ [])

-- the pins of the root's design, by number
abbrev pub is_pin_of : Design → ℕ → ℕ → Bool
is_pin_of d root v = is_inside d.places root (pin_at d.pins v).place

abbrev pub pins_of : Design → ℕ → List ℕ
pins_of d root = filter (is_pin_of d root) (range_with_len 0 (length d.pins))

-- the kinds of named objects: pins, port bits among them; instances
abbrev pub named_pins : Design → ℕ → List (Named ℕ)
named_pins d root = map (λ v. record { name = pin_name d root v; object = v }) (pins_of d root)

abbrev pub named_cells : Design → ℕ → List (Named ℕ)
named_cells d root =
    map (λ p. record { name = place_name d.places root p; object = p })
    (filter (λ p. not (p == root) && is_inside d.places root p) (range_with_len 0 (length d.places)))

-- the port bits of a place
abbrev pub bits_of : Design → ℕ → List ℕ
bits_of d p = filter (λ v. (pin_at d.pins v).place == p) (range_with_len 0 (length d.pins))

abbrev pub is_bit : Option ℕ → Bool
is_bit None = false
is_bit (Some n) = true

abbrev pub bits_of_port : Design → ℕ → List ℕ → List ℕ
bits_of_port d p port = filter (λ v. bytes_eq (pin_at d.pins v).port port) (bits_of d p)

-- the bit is the first of a vector
abbrev pub leads_vector : Design → ℕ → ℕ → Bool
leads_vector d p v = is_bit (pin_at d.pins v).bit && not (list_any (λ u. bytes_eq (pin_at d.pins u).port (pin_at d.pins v).port) (take_while (λ u. not (u == v)) (bits_of d p)))

-- ports: each port bit of the root by its name, and each vector by its name, which means all its bits
abbrev pub named_ports : Design → ℕ → List (Named (List ℕ))
named_ports d root =
    map (λ v. record { name = bit_name (pin_at d.pins v).port (pin_at d.pins v).bit; object = v ∷ [] }) (bits_of d root)
    ++ map (λ v. record { name = (pin_at d.pins v).port; object = bits_of_port d root (pin_at d.pins v).port }) (filter (leads_vector d root) (bits_of d root))

abbrev pub is_input : Dir → Bool
is_input Input = true
is_input Output = false
is_input Inout = false

abbrev pub is_output : Dir → Bool
is_output Input = false
is_output Output = true
is_output Inout = false

-- the root's input and output ports, bit by bit
abbrev pub input_bits : Design → ℕ → List ℕ
input_bits d root = filter (λ v. is_input (pin_at d.pins v).dir) (bits_of d root)

abbrev pub output_bits : Design → ℕ → List ℕ
output_bits d root = filter (λ v. is_output (pin_at d.pins v).dir) (bits_of d root)

-- the pin that drives a pin: the first pin of the wire that ends there
abbrev pub driver_of : List Wire → ℕ → Option ℕ
driver_of wires v = option_map (λ w. w.from.0) (find (λ w. w.to.0 == v) wires)

-- a wire of the root's design leads from a to b
abbrev pub is_wire : Design → ℕ → ℕ → ℕ → Bool
is_wire d root a b = list_any (λ w. w.from.0 == a && (w.to.0 == b && is_inside d.places root w.home)) d.wires

-- wires of the root's design lead from a over these pins, one after the other, to b
abbrev pub Wired : Design → ℕ → ℕ → List ℕ → ℕ → Type 0
Wired d root a [] b = a ≡ b
Wired d root a (v ∷ vs) b = (is_wire d root a v ≡ true) × Wired d root v vs b

-- one or more wires lead from a to b
abbrev pub LeadsTo : Design → ℕ → ℕ → ℕ → Type 0
LeadsTo d root a b = (v : ℕ) × ((vs : List ℕ) × Wired d root a (v ∷ vs) b)
