-- What is refused as a plain instance is entered, in the order in which it is tried.
use Rattle.std.specs.Prelude.{ℕ, suc, ◌+◌, ◌-◌, ◌==◌, ◌||◌, nat_lt, Bool, true, false, List, [], ◌∷◌, ◌++◌, map, length, find, min, max, sum_by, Option, Some, None, if◌then◌else◌}
use Rattle.std.specs.List.{join_with_byte}
use Rattle.std.specs.Option.{option_or, option_map}
use Rattle.std.specs.Str.{bytes_eq}
use Rattle.bud_syntax.specs.declared.modules.Dir.{Dir}
use Rattle.bud_syntax.specs.declared.modules.Dir.TheVariants.{Input, Output, Inout}
use Rattle.bud_syntax.specs.declared.modules.Range.{Range}
use Rattle.bud_syntax.specs.declared.modules.Port.{Port}
use Rattle.bud_syntax.specs.declared.modules.Piece.{Piece}
use Rattle.bud_syntax.specs.declared.modules.Piece.TheVariants.{Net, Bit, Part, Const}
use Rattle.bud_syntax.specs.declared.modules.Link.{Link}
use Rattle.bud_syntax.specs.declared.modules.Link.TheVariants.{Named, Placed}
use Rattle.bud_syntax.specs.declared.modules.Instance.{Instance}
use Rattle.bud_syntax.specs.declared.modules.Assign.{Assign}
use Rattle.bud_syntax.specs.declared.modules.Module.{Module}
use Rattle.module_nets.specs.declared.faults.ElabFault.{ElabFault}
use Rattle.module_nets.specs.declared.faults.ElabFault.TheVariants.{InoutPort, NameTwice, TooLarge, UnknownModule, Recursive, UnknownPort, Select, Width}
use Rattle.bud_design.specs.Lists.{first_some, first_again, has_name}
use Rattle.bud_design.specs.Names.{printed}
use Rattle.module_nets.specs.Nets.{range_bits, range_of, piece_net, expression_bits, local_bits, port_bits, module_called}

-- the top or a plain instance as it is entered
pub record Entry : Type 0 where
  pub «module» : Module
  -- the printed identifiers of the instances from below the top down to it
  pub path : List (List ℕ)
  -- the names of the modules that are being entered, its own among them
  pub entered : List (List ℕ)

-- the printed name of a net or an instance in it
abbrev pub printed_in : Entry → List ℕ → List ℕ
printed_in e name = join_with_byte 47 (e.path ++ printed name ∷ [])

abbrev pub is_inout : Dir → Bool
is_inout Input = false
is_inout Output = false
is_inout Inout = true

abbrev pub inout_port : Module → Option ElabFault
inout_port m = option_map (λ p. InoutPort (printed p.name)) (find (λ p. is_inout p.dir) m.ports)

abbrev pub is_top : Entry → Bool
is_top e = length e.path == 0

abbrev pub top_inout : Entry → Option ElabFault
top_inout e = if is_top e then inout_port e.«module» else None

-- a port, net or instance whose name stood before among these
abbrev pub name_twice : Entry → Option ElabFault
name_twice e =
    option_map (λ name. NameTwice (printed_in e name))
    (first_again [] (map (λ p. p.name) e.«module».ports ++ (map (λ n. n.name) e.«module».nets ++ map (λ i. i.name) e.«module».instances)))

-- what an instance adds to the count: its port bits, or 1 where it has none
abbrev pub instance_count : Option Module → ℕ
instance_count None = 0
instance_count (Some child) = max 1 (length (port_bits child))

-- what an entered module adds to the count: its local net bits, and its instances whose modules are known
abbrev pub entered_count : List Module → Module → ℕ
entered_count modules m = length (local_bits m) + sum_by (λ i. instance_count (module_called modules i.«module»)) m.instances

abbrev pub too_large : ℕ → Option ElabFault
too_large count = if nat_lt 4194304 count then Some (TooLarge 4194305) else None

-- the bit is outside its net's range, or the net is a scalar
abbrev pub is_outside : Option Range → ℕ → Bool
is_outside None n = true
is_outside (Some r) n = nat_lt n (min r.left r.right) || nat_lt (max r.left r.right) n

abbrev pub bad_select : Module → Piece → Option (List ℕ)
bad_select m (Net name) = None
bad_select m (Bit name n) = if is_outside (range_of m name) n then Some name else None
bad_select m (Part name left right) = if is_outside (range_of m name) left || is_outside (range_of m name) right then Some name else None
bad_select m (Const width) = None

abbrev pub select_fault : Entry → List Piece → Option ElabFault
select_fault e pieces = option_map (λ name. Select (printed_in e name)) (first_some (bad_select e.«module») pieces)

abbrev pub is_open : List Piece → Bool
is_open [] = true
is_open (x ∷ xs) = false

-- as many bits as the port has, or open
abbrev pub port_width_fault : Entry → Port → List Piece → Option ElabFault
port_width_fault e p pieces =
    if is_open pieces || length (expression_bits e.«module» pieces) == length (range_bits p.range) then None else Some (Width (printed p.name))

abbrev pub joined_fault : Entry → ElabFault → Option Port → List Piece → Option ElabFault
joined_fault e unknown None pieces = Some unknown
joined_fault e unknown (Some p) pieces = option_or (select_fault e pieces) (port_width_fault e p pieces)

-- the port of this name that no link before named, and the port at this place
abbrev pub free_port : List (List ℕ) → List Port → List ℕ → Option Port
free_port linked ports name = if has_name linked name then None else find (λ p. bytes_eq p.name name) ports

abbrev pub port_in_place : List Port → ℕ → Option Port
port_in_place [] k = None
port_in_place (p ∷ ps) k = if k == 0 then Some p else port_in_place ps (k - 1)

-- each link in order: a port that is unknown, linked before or one too many; a select; a width
abbrev pub link_faults : Entry → List Port → List ℕ → List (List ℕ) → ℕ → List Link → Option ElabFault
link_faults e ports instance linked k [] = None
link_faults e ports instance linked k (Named port pieces ∷ links) =
    option_or (joined_fault e (UnknownPort (printed port)) (free_port linked ports port) pieces)
    (link_faults e ports instance (port ∷ linked) (suc k) links)
link_faults e ports instance linked k (Placed pieces ∷ links) =
    option_or (joined_fault e (UnknownPort (printed_in e instance)) (port_in_place ports k) pieces)
    (link_faults e ports instance linked (suc k) links)

abbrev pub recursive : Entry → Instance → Option ElabFault
recursive e i = if has_name e.entered i.«module» then Some (Recursive (printed i.«module»)) else None

abbrev pub child_fault : Entry → Instance → Option Module → Option ElabFault
child_fault e i None = Some (UnknownModule (printed i.«module»))
child_fault e i (Some child) = option_or (recursive e i) (option_or (inout_port child) (link_faults e child.ports i.name [] 0 i.links))

abbrev pub instance_fault : List Module → Entry → Instance → Option ElabFault
instance_fault modules e i = child_fault e i (module_called modules i.«module»)

abbrev pub assign_width : Entry → Assign → Option ElabFault
assign_width e a =
    if length (expression_bits e.«module» a.left) == length (expression_bits e.«module» a.right) then None
    else option_map (λ name. Width (printed_in e name)) (first_some piece_net a.left)

abbrev pub assign_fault : Entry → Assign → Option ElabFault
assign_fault e a = option_or (select_fault e (a.left ++ a.right)) (assign_width e a)

-- the first refusal of the module's body as an instance is entered, its drivers not yet looked at; the count includes what the entry adds
abbrev pub body_fault : List Module → Entry → ℕ → Option ElabFault
body_fault modules e count =
    option_or (top_inout e) (option_or (name_twice e) (option_or (too_large count)
    (option_or (first_some (instance_fault modules e) e.«module».instances) (first_some (assign_fault e) e.«module».assigns))))
