-- The names of the top's ports.
use Rattle.std.specs.Prelude.{◌≡◌, ℕ, ◌<◌, ◌==◌, ◌&&◌, ◌||◌, not, Bool, false, if◌then◌else◌, List, [], ◌∷◌, map, filter, length, All}
use Rattle.std.specs.Str.{bytes_eq}
use Rattle.bud_base.specs.declared.ids.PinId.{PinId}
use Rattle.bud_design.specs.declared.designs.Pin.{Pin}
use Rattle.bud_design.specs.Designs.{Design, pin_at, is_bit, named_ports}
use Rattle.bud_design.specs.Names.{Named, plain, bit_name}
use Rattle.timing_objects.specs.declared.port_names.PortName.{PortName}

-- a design of these pins: the names of ports are told by its pins alone
abbrev pub design_of : List Pin → Design
design_of pins = record { places = []; pins = pins; wires = [] }

abbrev pub numbers : List PinId → List ℕ
numbers pins = map (λ v. v.0) pins

abbrev pub AreBelow : List Pin → List PinId → Type 0
AreBelow pins bits = All (λ v. v.0 < length pins) bits

abbrev pub is_at : List Pin → ℕ → ℕ → Bool
is_at pins place v = (pin_at pins v).place == place

abbrev pub named_as : PortName → Named (List ℕ)
named_as n = record { name = n.printed; object = numbers n.pins }

abbrev pub HasPlain : PortName → Type 0
HasPlain n = n.plain ≡ plain n.printed

-- a bit by its own name
abbrev pub bit_named : List Pin → ℕ → Named (List ℕ)
bit_named pins v = record { name = bit_name (pin_at pins v).port (pin_at pins v).bit; object = v ∷ [] }

-- the bits of a port, by its name
abbrev pub has_port : List Pin → List ℕ → ℕ → Bool
has_port pins port v = bytes_eq (pin_at pins v).port port

abbrev pub vector_named : List Pin → List ℕ → ℕ → Named (List ℕ)
vector_named pins bits v = record { name = (pin_at pins v).port; object = filter (has_port pins (pin_at pins v).port) bits }

-- a bit that comes before this one is of the port
abbrev pub comes_before : List Pin → List ℕ → ℕ → List ℕ → Bool
comes_before pins port v [] = false
comes_before pins port v (u ∷ us) = if u == v then false else (has_port pins port u || comes_before pins port v us)

-- the bit is one of a vector, and the first of its port
abbrev pub leads_among : List Pin → List ℕ → ℕ → Bool
leads_among pins bits v = is_bit (pin_at pins v).bit && not (comes_before pins (pin_at pins v).port v bits)

-- the names are those of the top's ports, each with its plain form
pub record ArePortNames (pins : List Pin) (names : List PortName) : Type 0 where
  pub named : map named_as names ≡ named_ports (design_of pins) 0
  pub plain : All HasPlain names
