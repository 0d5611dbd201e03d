-- The port bits of an instance with the net bits that they are joined to.
use Rattle.std.specs.Prelude.{◌≡◌, ℕ, suc, ◌<◌, ◌^◌, List, [], ◌∷◌, ◌++◌, length, Option, Some, None, slice_index_or}
use Rattle.bud_syntax.specs.declared.modules.Instance.{Instance}
use Rattle.bud_syntax.specs.declared.modules.Module.{Module}
use Rattle.bud_syntax.specs.declared.modules.Link.{Link}
use Rattle.bud_syntax.specs.declared.modules.Port.{Port}
use Rattle.module_nets.specs.Nets.{NetBit, module_called, joined_bits, joined_to, expression_bits, or_open}
use Rattle.net_drivers.specs.Appending.{AreNumbers}
use Rattle.net_drivers.specs.Joints.{directions, joints}
use Rattle.net_drivers.specs.declared.slots.Joint.{Joint}

-- the net bits that links join to ports
abbrev pub joined_ports : ℕ → Module → List Link → List Port → List (Option NetBit)
joined_ports k m links [] = []
joined_ports k m links (p ∷ ps) = or_open p.range (expression_bits m (joined_to p.name k links)) ++ joined_ports (suc k) m links ps

-- the port bits of a child, by the numbers of what they are joined to
pub record AreJoints (m : Module) (i : Instance) (child : Module) (js : List Joint) : Type 0 where
  pub numbers : List (Option ℕ)
  pub are : AreNumbers m (joined_bits m child i) numbers
  pub pairs : js ≡ joints (directions child.ports) numbers

abbrev pub IsJoined : Module → Instance → Option Module → List Joint → Type 0
IsJoined m i None pairs = pairs ≡ []
IsJoined m i (Some child) pairs = AreJoints m i child pairs

-- the ports of an instance have fewer than 2^32 bits
abbrev pub IsSmallChild : Option Module → Type 0
IsSmallChild None = Unit {0}
IsSmallChild (Some child) = length (directions child.ports) < 2 ^ 32

abbrev pub instance_at : List Instance → ℕ → Instance
instance_at is k = slice_index_or is k (record { «module» = []; name = []; links = [] })

-- the port bits of the first so many instances
pub record AreJoined (modules : List Module) (m : Module) (is : List Instance) (n : ℕ) (joined : List (List Joint)) : Type 0 where
  pub size : length joined ≡ n
  pub each : (k : ℕ) → k < n → IsJoined m (instance_at is k) (module_called modules (instance_at is k).«module») (slice_index_or joined k [])

-- the port bits of the instances of a module
abbrev pub AreJoinedIn : List Module → Module → List (List Joint) → Type 0
AreJoinedIn modules m joined = AreJoined modules m m.instances (length m.instances) joined
