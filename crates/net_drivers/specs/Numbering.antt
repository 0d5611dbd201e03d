-- Net bits by their places among all net bits of a module.
use Rattle.std.specs.Prelude.{◌≡◌, ℕ, zero, suc, ◌<◌, ◌==◌, Bool, true, false, List, [], ◌∷◌, length, map, Option, Some, None, slice_index, slice_index_or, All}
use Rattle.std.specs.Option.{option_map}
use Rattle.module_nets.specs.Nets.{NetBit, same_bit}
use Rattle.net_drivers.specs.declared.pins.LocalPin.{LocalPin}
use Rattle.net_drivers.specs.declared.slots.Slot.{Slot}
use Rattle.net_drivers.specs.declared.slots.Slot.TheVariants.{Free, Pin, Constant, Assigned}
use Rattle.net_drivers.specs.Chains.{steps}
use Rattle.net_drivers.specs.Drivers.{Source, pin, constant, assigned, Drive, drive, source_of}
use Rattle.net_drivers.specs.Slots.{Put, IsBelow, slot_at}

abbrev pub bit_at : List NetBit → ℕ → NetBit
bit_at bits n = slice_index_or bits n (record { net = []; bit = None })

-- no bit stands twice
pub record AreApart (bits : List NetBit) : Type 0 where
  pub apart : (i j : ℕ) → i < length bits → j < length bits → same_bit (bit_at bits i) (bit_at bits j) ≡ (i == j)

-- what a slot says of its bit
abbrev pub source_at : List NetBit → Slot → Option Source
source_at bits Free = None
source_at bits (Pin p) = Some (pin p)
source_at bits Constant = Some constant
source_at bits (Assigned None) = Some (assigned None)
source_at bits (Assigned (Some n)) = Some (assigned (Some (bit_at bits n)))

-- the source that a put names
abbrev pub or_constant : Option Source → Source
or_constant None = constant
or_constant (Some s) = s

abbrev pub named : List NetBit → Put → Drive
named bits p = drive (bit_at bits p.bit) (or_constant (source_at bits p.slot))

-- bits that are assigned have theirs below the count of bits
abbrev pub IsSlotBelow : ℕ → Slot → Type 0
IsSlotBelow count Free = Unit {0}
IsSlotBelow count (Pin p) = Unit {0}
IsSlotBelow count Constant = Unit {0}
IsSlotBelow count (Assigned n) = IsBelow count n

abbrev pub IsTaken : Slot → Type 0
IsTaken Free = ⊥
IsTaken (Pin p) = Unit {0}
IsTaken Constant = Unit {0}
IsTaken (Assigned n) = Unit {0}

pub record IsPut (count : ℕ) (p : Put) : Type 0 where
  pub bit : p.bit < count
  pub taken : IsTaken p.slot
  pub slot : IsSlotBelow count p.slot

-- what each slot says is what drives its bit first
pub record Holds (bits : List NetBit) (ds : List Drive) (slots : List Slot) : Type 0 where
  pub size : length slots ≡ length bits
  pub sources : (k : ℕ) → k < length bits → source_at bits (slot_at slots k) ≡ source_of ds (bit_at bits k)
  pub below : (k : ℕ) → IsSlotBelow (length bits) (slot_at slots k)

-- the pin that a slot names
abbrev pub pin_in : Slot → Option LocalPin
pin_in Free = None
pin_in (Pin p) = Some p
pin_in Constant = None
pin_in (Assigned n) = None

-- where a step leads from the bit of a number
abbrev pub step_from : ℕ → Slot → ℕ
step_from k Free = k
step_from k (Pin p) = k
step_from k Constant = k
step_from k (Assigned None) = k
step_from k (Assigned (Some n)) = n

pub record AreSteps (slots : List Slot) (next : List ℕ) : Type 0 where
  pub size : length next ≡ length slots
  pub each : (k : ℕ) → k < length slots → slice_index next k ≡ step_from k (slot_at slots k)

pub record AreSlotsBelow (slots : List Slot) : Type 0 where
  pub each : (k : ℕ) → IsSlotBelow (length slots) (slot_at slots k)

-- the pin that drives each bit, with so many assigns followed
pub record ArePinsOf (most : ℕ) (slots : List Slot) (pins : List (Option LocalPin)) : Type 0 where
  pub size : length pins ≡ length slots
  pub next : List ℕ
  pub are : AreSteps slots next
  pub each : (k : ℕ) → k < length slots → slice_index_or pins k None ≡ pin_in (slot_at slots (steps most next k))

-- the pins that the slots of these numbers name
pub record ArePinsAt (slots : List Slot) (far : List ℕ) (pins : List (Option LocalPin)) : Type 0 where
  pub size : length pins ≡ length far
  pub each : (k : ℕ) → k < length far → slice_index_or pins k None ≡ pin_in (slot_at slots (slice_index far k))
