-- What the entries say of each pin and instance, in tables by number.
use Rattle.std.specs.Prelude.{◌≡◌, ℕ, ◌<◌, ◌==◌, ◌&&◌, ◌||◌, not, if◌then◌else◌, Bool, true, false, List, length, Option, Some, None, All, slice_index_or}
use Rattle.std.specs.List.{list_any}
use Rattle.bud_syntax.specs.declared.edges.Edge.{Edge}
use Rattle.bud_syntax.specs.declared.edges.Edge.TheVariants.{Rise, Fall}
use Rattle.registers.specs.Registers.{has_edge, both_or, named_edge, named_edges, check_edges}
use Rattle.registers.specs.declared.entries.Through.{Through}
use Rattle.registers.specs.declared.entries.Setup.{Setup}
use Rattle.registers.specs.declared.edge_sets.EdgeSet.{EdgeSet}

abbrev pub mark_at : List Bool → ℕ → Bool
mark_at marks v = slice_index_or marks v false

abbrev pub set_at : List EdgeSet → ℕ → EdgeSet
set_at sets v = slice_index_or sets v (record { rise = false; fall = false })

-- the edges among these
abbrev pub set_of : List Edge → EdgeSet
set_of edges = record { rise = has_edge Rise edges; fall = has_edge Fall edges }

-- the pins of entries are below a number
pub record IsSetupWithin (pins : ℕ) (s : Setup) : Type 0 where
  pub pin : s.pin.0 < pins
  pub clock : s.clock.0 < pins

pub record IsThroughWithin (pins : ℕ) (t : Through) : Type 0 where
  pub from : t.from.0 < pins
  pub to : t.to.0 < pins

abbrev pub union : EdgeSet → EdgeSet → EdgeSet
union x y = record { rise = x.rise || y.rise; fall = x.fall || y.fall }

abbrev pub is_empty_set : EdgeSet → Bool
is_empty_set x = not x.rise && not x.fall

abbrev pub or_else_set : EdgeSet → EdgeSet → EdgeSet
or_else_set x y = if is_empty_set x then y else x

abbrev pub only_by : Bool → Bool → Option Edge
only_by true true = None
only_by true false = Some Rise
only_by false true = Some Fall
only_by false false = None

abbrev pub only_edge : EdgeSet → Option Edge
only_edge x = only_by x.rise x.fall

-- the edges that the checks at each clock pin count for, from number `low` on, and those that delays from each pin name
abbrev pub AreCheckEdges : List Setup → List EdgeSet → Type 0
AreCheckEdges setups sets = (v : ℕ) → v < length sets → set_at sets v ≡ set_of (check_edges setups v)

abbrev pub AreNamedEdges : List Through → List EdgeSet → Type 0
AreNamedEdges throughs sets = (v : ℕ) → v < length sets → set_at sets v ≡ set_of (named_edges throughs v)
