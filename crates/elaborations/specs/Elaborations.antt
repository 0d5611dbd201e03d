-- The flat design of a netlist, or its first refusal.
use Rattle.std.specs.Prelude.{◌≡◌, ℕ, zero, suc, ◌+◌, ◌==◌, nat_lt, Bool, List, [], ◌∷◌, ◌++◌, map, length, filter, find, flat_map, Contains, Option, Some, None, Result, Ok, Err, slice_index_or, if◌then◌else◌}
use Rattle.std.specs.List.{position_from, range_with_len}
use Rattle.std.specs.Str.{bytes_eq}
use Rattle.bud_design.specs.declared.designs.Place.{Place}
use Rattle.bud_design.specs.declared.designs.Pin.{Pin}
use Rattle.bud_design.specs.declared.designs.Wire.{Wire}
use Rattle.bud_syntax.specs.declared.modules.Instance.{Instance}
use Rattle.bud_syntax.specs.declared.modules.Module.{Module}
use Rattle.module_nets.specs.declared.faults.ElabFault.{ElabFault}
use Rattle.module_nets.specs.declared.faults.ElabFault.TheVariants.{ModuleTwice, NoTop, ManyTops, TooDeep, InoutPort, NameTwice, TooLarge, UnknownModule, Recursive, UnknownPort, Select, Width, TwoDrivers, NoMemory}
use Rattle.bud_design.specs.Designs.{Design, place_at}
use Rattle.net_drivers.specs.declared.pins.LocalPin.{LocalPin}
use Rattle.net_drivers.specs.declared.pins.LocalWire.{LocalWire}
use Rattle.net_drivers.specs.Drivers.{local_wires}
use Rattle.module_nets.specs.Entering.{Entry, entered_count, body_fault, printed_in}
use Rattle.net_drivers.specs.Drivers.{twice_driven}
use Rattle.std.specs.Option.{option_or, option_map}
use Rattle.bud_design.specs.Lists.{Lists}
use Rattle.bud_design.specs.Names.{printed, bit_name}
use Rattle.module_nets.specs.Nets.{port_bits, module_called, same_number}
use Rattle.module_nets.specs.Tops.{top_module}

abbrev pub two_drivers : List Module → Entry → Option ElabFault
two_drivers modules e = option_map (λ b. TwoDrivers (bit_name (printed_in e b.net) b.bit)) (twice_driven modules e.«module»)

-- the first refusal as an instance is entered; the count includes what it adds
abbrev pub entering_fault : List Module → Entry → ℕ → Option ElabFault
entering_fault modules e count = option_or (body_fault modules e count) (two_drivers modules e)

-- the places and pins so far, and the count
pub record Built : Type 0 where
  pub places : List Place
  pub pins : List Pin
  pub count : ℕ

-- one step after the other, up to the first refusal
infixl 10 ◌>>=◌
abbrev pub ◌>>=◌ : {A B : Type 0} → Result A ElabFault → (A → Result B ElabFault) → Result B ElabFault
(Ok x) >>= f = f x
(Err fault) >>= f = Err fault

-- the port bits of a place, in port order
abbrev pub pins_at : ℕ → Module → List Pin
pins_at place m = map (λ b. record { place = place; port = printed b.port; bit = b.bit; dir = b.dir }) (port_bits m)

abbrev pub with_place : List ℕ → Option ℕ → Module → Built → Built
with_place name parent m built = record {
  places = built.places ++ record { name = name; «module» = printed m.name; leaf = m.leaf; parent = parent } ∷ [];
  pins = built.pins ++ pins_at (length built.places) m;
  count = built.count;
}

-- the count so far, unless entering is refused
abbrev pub counted : List Module → Entry → Built → Option ElabFault → Result Built ElabFault
counted modules e built None = Ok (record built { count = built.count + entered_count modules e.«module» })
counted modules e built (Some fault) = Err fault

abbrev pub entry_below : Entry → Instance → Module → Entry
entry_below e i child = record { «module» = child; path = e.path ++ printed i.name ∷ []; entered = child.name ∷ e.entered }

-- an instance gets its number and pins, and a plain one is entered
abbrev pub placed : (Entry → ℕ → Built → Result Built ElabFault) → Entry → ℕ → Instance → Option Module → Built → Result Built ElabFault
placed enter e here i None built = Ok built
placed enter e here i (Some child) built =
    if child.leaf then Ok (with_place (printed i.name) (Some here) child built)
    else enter (entry_below e i child) (length built.places) (with_place (printed i.name) (Some here) child built)

-- the instances in file order, each followed by what is inside it
abbrev pub all_placed : (Entry → ℕ → Built → Result Built ElabFault) → List Module → Entry → ℕ → List Instance → Built → Result Built ElabFault
all_placed enter modules e here [] built = Ok built
all_placed enter modules e here (i ∷ is) built = do
  built ← placed enter e here i (module_called modules i.«module») built
  all_placed enter modules e here is built

-- the top or a plain instance is entered, so many levels being left
abbrev pub enter : ℕ → List Module → Entry → ℕ → Built → Result Built ElabFault
enter zero modules e here built = Err (TooDeep 257)
enter (suc levels) modules e here built = do
  built ← counted modules e built (entering_fault modules e (built.count + entered_count modules e.«module»))
  all_placed (enter levels modules) modules e here e.«module».instances built

abbrev pub top_entry : Module → Entry
top_entry m = record { «module» = m; path = []; entered = m.name ∷ [] }

abbrev pub top_built : Module → Built
top_built m = with_place [] None m (record { places = []; pins = []; count = length (port_bits m) })

-- the places and pins of the netlist: the top, and at most 256 levels of plain instances below it
abbrev pub elaborated : List Module → Option (List ℕ) → Result Built ElabFault
elaborated modules top = do
  m ← top_module modules top
  enter 257 modules (top_entry m) 0 (top_built m)

abbrev pub or_zero : Option ℕ → ℕ
or_zero None = 0
or_zero (Some n) = n

-- the number of a place's first pin, and of the i-th instance in a place
abbrev pub first_pin : List Pin → ℕ → ℕ
first_pin pins p = or_zero (position_from (λ v. v.place == p) 0 pins)

abbrev pub instances_in : List Place → ℕ → List ℕ
instances_in places p = filter (λ q. same_number (place_at places q).parent (Some p)) (range_with_len 0 (length places))

abbrev pub place_of : List Place → ℕ → Option ℕ → ℕ
place_of places p None = p
place_of places p (Some i) = slice_index_or (instances_in places p) i 0

-- the number of a module's local pin at a place
abbrev pub pin_number : List Place → List Pin → ℕ → LocalPin → ℕ
pin_number places pins p l = first_pin pins (place_of places p l.instance) + l.bit

abbrev pub wire_at : List Place → List Pin → ℕ → LocalWire → Wire
wire_at places pins p w = record { from = record { 0 = pin_number places pins p w.from }; to = record { 0 = pin_number places pins p w.to }; home = p }

abbrev pub module_of : List Module → Place → Option Module
module_of modules place = find (λ m. bytes_eq (printed m.name) place.«module») modules

abbrev pub local_wires_of : ℕ → List Module → Option Module → List LocalWire
local_wires_of most modules None = []
local_wires_of most modules (Some m) = if m.leaf then [] else local_wires most modules m

-- the wires whose home is a place; at most 2^22 assigns are followed, since a module has no more net bits
abbrev pub wires_in : ℕ → List Module → List Place → List Pin → ℕ → List Wire
wires_in most modules places pins p = map (wire_at places pins p) (local_wires_of most modules (module_of modules (place_at places p)))

abbrev pub all_wires : ℕ → List Module → List Place → List Pin → List Wire
all_wires most modules places pins = flat_map (wires_in most modules places pins) (range_with_len 0 (length places))

abbrev pub ends_before : Wire → Wire → Bool
ends_before w x = nat_lt w.to.0 x.to.0

-- the design of the netlist
pub record IsFlatDesign (modules : List Module) (top : Option (List ℕ)) (d : Design) : Type 0 where
  pub count : ℕ
  pub built : elaborated modules top ≡ Ok (record { places = d.places; pins = d.pins; count = count })
  pub wires : Lists ends_before (Contains (all_wires 4194304 modules d.places d.pins)) d.wires

-- what each answer of `elaborate` says
abbrev pub IsElaborateAnswer : List Module → Option (List ℕ) → Result Design ElabFault → Type 0
IsElaborateAnswer modules top (Ok d) = IsFlatDesign modules top d
IsElaborateAnswer modules top (Err (ModuleTwice name)) = elaborated modules top ≡ Err (ModuleTwice name)
IsElaborateAnswer modules top (Err (NoTop name)) = elaborated modules top ≡ Err (NoTop name)
IsElaborateAnswer modules top (Err (ManyTops a b)) = elaborated modules top ≡ Err (ManyTops a b)
IsElaborateAnswer modules top (Err (TooDeep count)) = elaborated modules top ≡ Err (TooDeep count)
IsElaborateAnswer modules top (Err (InoutPort name)) = elaborated modules top ≡ Err (InoutPort name)
IsElaborateAnswer modules top (Err (NameTwice name)) = elaborated modules top ≡ Err (NameTwice name)
IsElaborateAnswer modules top (Err (TooLarge count)) = elaborated modules top ≡ Err (TooLarge count)
IsElaborateAnswer modules top (Err (UnknownModule name)) = elaborated modules top ≡ Err (UnknownModule name)
IsElaborateAnswer modules top (Err (Recursive name)) = elaborated modules top ≡ Err (Recursive name)
IsElaborateAnswer modules top (Err (UnknownPort name)) = elaborated modules top ≡ Err (UnknownPort name)
IsElaborateAnswer modules top (Err (Select name)) = elaborated modules top ≡ Err (Select name)
IsElaborateAnswer modules top (Err (Width name)) = elaborated modules top ≡ Err (Width name)
IsElaborateAnswer modules top (Err (TwoDrivers name)) = elaborated modules top ≡ Err (TwoDrivers name)
IsElaborateAnswer modules top (Err NoMemory) = Unit {0}
