-- What is driven step by step, and how often.
use Rattle.std.specs.Prelude.{◌≡◌, ℕ, ◌+◌, ◌<◌, ◌≤◌, ◌⊎◌, Bool, true, false, List, [], ◌∷◌, length, map, min, count_by, Option, Some, None, All}
use Rattle.bud_syntax.specs.declared.modules.Assign.{Assign}
use Rattle.bud_syntax.specs.declared.modules.Module.{Module}
use Rattle.module_nets.specs.Nets.{NetBit, same_bit, all_bits, expression_bits, module_called, piece_net, pieces_of_link}
use Rattle.net_drivers.specs.declared.covers.Ends.{Ends}
use Rattle.net_drivers.specs.declared.slots.Slot.{Slot}
use Rattle.net_drivers.specs.Appending.{IsFine}
use Rattle.net_drivers.specs.Covers.{one_if, passing, AreOrdered}
use Rattle.net_drivers.specs.Drivers.{Drive}
use Rattle.net_drivers.specs.Joins.{IsSmallChild}
use Rattle.net_drivers.specs.Numbering.{bit_at, named, IsPut}
use Rattle.net_drivers.specs.Slots.{Put, filled, counted}

-- all of these drive their bits, and are counted
pub record IsDriven (bits : List NetBit) (ds : List Drive) (before after : List Slot) (old new : List Ends) : Type 0 where
  pub puts : List Put
  pub named : map (named bits) puts ≡ ds
  pub valid : All (IsPut (length bits)) puts
  pub slots : after ≡ filled puts before
  pub rows : new ≡ counted puts old

-- all of these drive their bits
pub record IsFilled (bits : List NetBit) (ds : List Drive) (before after : List Slot) : Type 0 where
  pub puts : List Put
  pub named : map (named bits) puts ≡ ds
  pub valid : All (IsPut (length bits)) puts
  pub slots : after ≡ filled puts before

-- how many of these drive a bit
abbrev pub driving : NetBit → List Drive → ℕ
driving b ds = count_by (λ x. same_bit x.bit b) ds

-- these drive bits once more
pub record Counts (bits : List NetBit) (ds : List Drive) (old new : List Ends) : Type 0 where
  pub size : length new ≡ length old
  pub ordered : AreOrdered old → AreOrdered new
  pub counts : AreOrdered old → (k : ℕ) → k < length bits → passing new k ≡ min 2 (passing old k + driving (bit_at bits k) ds)

-- how often a bit stands among bits
abbrev pub is_bit : NetBit → Option NetBit → Bool
is_bit b None = false
is_bit b (Some c) = same_bit c b

abbrev pub standing : NetBit → List (Option NetBit) → ℕ
standing b [] = 0
standing b (n ∷ ns) = one_if (is_bit b n) + standing b ns

-- each of these bits is driven once more
pub record Stands (bits : List NetBit) (ns : List (Option NetBit)) (old new : List Ends) : Type 0 where
  pub size : length new ≡ length old
  pub ordered : AreOrdered old → AreOrdered new
  pub counts : AreOrdered old → (k : ℕ) → k < length bits → passing new k ≡ min 2 (passing old k + standing (bit_at bits k) ns)

-- the right side is no shorter, or the left side has no net
abbrev pub IsPaired : Module → Assign → Type 0
IsPaired m a = (length (expression_bits m a.left) ≤ length (expression_bits m a.right)) ⊎ All (λ x. piece_net x ≡ None) a.left

pub record IsFineAssign (m : Module) (a : Assign) : Type 0 where
  pub left : All (IsFine m) a.left
  pub right : All (IsFine m) a.right
  pub paired : IsPaired m a

-- the module's body isn't refused, as far as its drivers ask
pub record IsClean (modules : List Module) (m : Module) : Type 0 where
  pub small : length (all_bits m) ≤ 8388608
  pub instances : length m.instances < 2147483648
  pub links : All (λ i. All (λ l. All (IsFine m) (pieces_of_link l)) i.links) m.instances
  pub children : All (λ i. IsSmallChild (module_called modules i.«module»)) m.instances
  pub assigns : All (IsFineAssign m) m.assigns
