-- The arcs of a view as items from pin to pin, and the states of a view.
use Rattle.std.specs.Prelude.{◌≡◌, ℕ, ◌<◌, ◌≤◌, ◌↔◌, ℤ, Bool, true, false, List, length, Some, slice_index_or, All, Contains}
use Rattle.bud_base.specs.Paths.{item_at}
use Rattle.bud_base.specs.declared.problems.Item.{Item}
use Rattle.bud_base.specs.declared.problems.End.{End}
use Rattle.bud_design.specs.Arcs.{arc_at}
use Rattle.bud_design.specs.Designs.{is_inside}
use Rattle.bud_design.specs.Layers.{walk_of, EndsAt}
use Rattle.bud_design.specs.Reaching.{LeadsOn}
use Rattle.bud_design.specs.Exceptions.{class_requirement}
use Rattle.bud_design.specs.TimingPaths.{View, least_asked}
use Rattle.bud_design.specs.declared.clocks.Constraints.{Constraints}
use Rattle.bud_design.specs.declared.layers.Class.{Class}
use Rattle.path_states.specs.Tables.{Table, pin_at, class_in, launch_in}

-- the items are the view's arcs, which all lie inside the root
pub record HasArcs (w : View) (arcs : List Item) : Type 0 where
  pub count : length w.arcs ≡ length arcs
  pub from : (a : ℕ) → a < length arcs → (arc_at w.arcs a).from ≡ (item_at arcs a).from.0
  pub to : (a : ℕ) → a < length arcs → (arc_at w.arcs a).to ≡ (item_at arcs a).to.0
  pub least : (a : ℕ) → a < length arcs → (arc_at w.arcs a).least ≡ (item_at arcs a).least
  pub inside : (a : ℕ) → a < length w.arcs → is_inside w.design.places w.root (arc_at w.arcs a).home ≡ true

-- a state of the table for the pin and the class, that this launch or an earlier one reaches
pub record HasState (t : Table) (v : ℕ) (k : Class) (n : ℕ) : Type 0 where
  pub state : ℕ
  pub within : state < length t.states
  pub pin : pin_at t state ≡ v
  pub class_is : class_in t state ≡ k
  pub earlier : launch_in t state ≤ n

-- the marked states are those that lead on to an end
abbrev pub AreLive : View → Table → List Bool → Type 0
AreLive w t live = (i : ℕ) → i < length t.states → ((slice_index_or live i false ≡ true) ↔ LeadsOn (walk_of w) (EndsAt w) (pin_at t i) (class_in t i))

-- the first `count` states where captures have a requirement by the class
pub record AreStateEnds (all : Constraints) (t : Table) (count : ℕ) (ends : List End) : Type 0 where
  pub within : All (λ e. e.node.0 < count) ends
  pub sound : All (λ e. least_asked all.captures (pin_at t e.node.0) (class_requirement all (class_in t e.node.0)) ≡ Some e.require) ends
  pub complete : (i : ℕ) → i < count → (z : ℤ) → least_asked all.captures (pin_at t i) (class_requirement all (class_in t i)) ≡ Some z
      → Contains ends (record { node = record { 0 = i }; require = z })
