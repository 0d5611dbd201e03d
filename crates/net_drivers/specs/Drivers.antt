-- Drivers of net bits, with assigns followed, and the wires of one module.
use Rattle.std.specs.Prelude.{ℕ, zero, suc, nat_lt, Bool, true, false, List, [], ◌∷◌, ◌++◌, map, filter, find, flat_map, filter_map, count_by, Option, Some, None}
use Rattle.std.specs.Option.{option_map}
use Rattle.bud_syntax.specs.declared.modules.Instance.{Instance}
use Rattle.bud_syntax.specs.declared.modules.Assign.{Assign}
use Rattle.bud_syntax.specs.declared.modules.Module.{Module}
use Rattle.net_drivers.specs.declared.pins.LocalPin.{LocalPin}
use Rattle.net_drivers.specs.declared.pins.LocalWire.{LocalWire}
use Rattle.bud_design.specs.Designs.{is_input, is_output}
use Rattle.module_nets.specs.Nets.{NetBit, PortBit, same_bit, bit_of, net_bits, all_bits, port_bits, expression_bits, joined_bits, module_called}

abbrev pub local_pin : Option ℕ → ℕ → LocalPin
local_pin i k = record { instance = i; bit = k }

-- what drives a net bit: a pin, a constant, or by an assign what drives another bit, None being a constant's
pub data Source : Type 0 where
  pin : LocalPin → Source
  constant : Source
  assigned : Option NetBit → Source

pub record Drive : Type 0 where
  pub bit : NetBit
  pub source : Source

abbrev pub drive : NetBit → Source → Drive
drive b s = record { bit = b; source = s }

abbrev pub drive_if : Bool → Option NetBit → Source → List Drive
drive_if false b s = []
drive_if true None s = []
drive_if true (Some b) s = drive b s ∷ []

-- the input port bits of the module drive their nets
abbrev pub input_drives : ℕ → List PortBit → List Drive
input_drives k [] = []
input_drives k (b ∷ bs) = drive_if (is_input b.dir) (Some (bit_of b.port b.bit)) (pin (local_pin None k)) ++ input_drives (suc k) bs

-- the output port bits of an instance drive the net bits that they are joined to
abbrev pub output_drives : ℕ → ℕ → List PortBit → List (Option NetBit) → List Drive
output_drives i k [] bits = []
output_drives i k (b ∷ bs) [] = []
output_drives i k (b ∷ bs) (n ∷ ns) = drive_if (is_output b.dir) n (pin (local_pin (Some i) k)) ++ output_drives i (suc k) bs ns

abbrev pub child_drives : Module → ℕ → Instance → Option Module → List Drive
child_drives m i inst None = []
child_drives m i inst (Some child) = output_drives i 0 (port_bits child) (joined_bits m child inst)

abbrev pub instance_drives : List Module → Module → ℕ → List Instance → List Drive
instance_drives modules m i [] = []
instance_drives modules m i (x ∷ xs) = child_drives m i x (module_called modules x.«module») ++ instance_drives modules m (suc i) xs

-- an assign drives each bit of its left side by the bit of its right side
abbrev pub pair_drives : List (Option NetBit) → List (Option NetBit) → List Drive
pair_drives [] rights = []
pair_drives (l ∷ ls) [] = []
pair_drives (l ∷ ls) (r ∷ rs) = drive_if true l (assigned r) ++ pair_drives ls rs

abbrev pub assign_drives : Module → Assign → List Drive
assign_drives m a = pair_drives (expression_bits m a.left) (expression_bits m a.right)

-- all that drives net bits of the module
unfoldable pub drives : List Module → Module → List Drive
drives modules m =
    input_drives 0 (port_bits m)
    ++ (flat_map (λ n. map (λ b. drive b constant) (net_bits m n.name)) (filter (λ n. n.constant) m.nets)
    ++ (instance_drives modules m 0 m.instances ++ flat_map (assign_drives m) m.assigns))

-- the first net bit that more than one thing drives
abbrev pub twice_driven : List Module → Module → Option NetBit
twice_driven modules m = find (λ b. nat_lt 1 (count_by (λ x. same_bit x.bit b) (drives modules m))) (all_bits m)

abbrev pub source_of : List Drive → NetBit → Option Source
source_of ds b = option_map (λ x. x.source) (find (λ x. same_bit x.bit b) ds)

abbrev pub through : (NetBit → Option LocalPin) → Option Source → Option LocalPin
through follow None = None
through follow (Some (pin p)) = Some p
through follow (Some constant) = None
through follow (Some (assigned None)) = None
through follow (Some (assigned (Some b))) = follow b

-- the pin that drives a net bit, at most so many assigns followed; a ring of assigns has none
unfoldable pub driver : ℕ → List Drive → NetBit → Option LocalPin
driver zero ds b = through (λ next. None) (source_of ds b)
driver (suc n) ds b = through (driver n ds) (source_of ds b)

-- what a load pin hangs on
pub record Load : Type 0 where
  pub at : LocalPin
  pub bit : NetBit

abbrev pub load_if : Bool → LocalPin → Option NetBit → List Load
load_if false p b = []
load_if true p None = []
load_if true p (Some b) = record { at = p; bit = b } ∷ []

-- the module's own output port bits
abbrev pub own_loads : ℕ → List PortBit → List Load
own_loads k [] = []
own_loads k (b ∷ bs) = load_if (is_output b.dir) (local_pin None k) (Some (bit_of b.port b.bit)) ++ own_loads (suc k) bs

-- the input port bits of an instance
abbrev pub input_loads : ℕ → ℕ → List PortBit → List (Option NetBit) → List Load
input_loads i k [] bits = []
input_loads i k (b ∷ bs) [] = []
input_loads i k (b ∷ bs) (n ∷ ns) = load_if (is_input b.dir) (local_pin (Some i) k) n ++ input_loads i (suc k) bs ns

abbrev pub child_loads : Module → ℕ → Instance → Option Module → List Load
child_loads m i inst None = []
child_loads m i inst (Some child) = input_loads i 0 (port_bits child) (joined_bits m child inst)

abbrev pub instance_loads : List Module → Module → ℕ → List Instance → List Load
instance_loads modules m i [] = []
instance_loads modules m i (x ∷ xs) = child_loads m i x (module_called modules x.«module») ++ instance_loads modules m (suc i) xs

unfoldable pub loads : List Module → Module → List Load
loads modules m = own_loads 0 (port_bits m) ++ instance_loads modules m 0 m.instances

-- the wires of a module: from the driver of a net bit to each load of it
abbrev pub local_wires : ℕ → List Module → Module → List LocalWire
local_wires most modules m =
    filter_map (λ l. option_map (λ p. record { from = p; to = l.at }) (driver most (drives modules m) l.bit)) (loads modules m)
