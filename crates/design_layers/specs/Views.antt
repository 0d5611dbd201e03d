-- A flat design with its graph and constraints as one view, and the slack that a problem has in common with it.
use Rattle.std.specs.Prelude.{ℤ, pos, ◌↔◌, []}
use Rattle.bud_base.specs.Paths.{IsLeastSlack, HasNoPath}
use Rattle.bud_base.specs.declared.problems.Item.{Item}
use Rattle.bud_base.specs.declared.problems.Problem.{Problem}
use Rattle.bud_design.specs.Arcs.{Arc, Graph}
use Rattle.bud_design.specs.Designs.{Design}
use Rattle.bud_design.specs.TimingPaths.{View, TimingPath, IsConstrained, IsLeastPathSlack}
use Rattle.bud_design.specs.declared.clocks.Constraints.{Constraints}
use Rattle.bud_design.specs.declared.policies.Policy.{Policy}

-- the whole design, from its top down
abbrev pub whole_view : Design → Graph → Constraints → View
whole_view d g all = record { design = d; root = 0; arcs = g.arcs; all = all }

-- the policy without lines
abbrev pub no_policy : Policy
no_policy = record { version = 1; lines = [] }

abbrev pub HasNoConstrainedPath : View → Type 0
HasNoConstrainedPath w = (path : TimingPath) (room : ℤ) → IsConstrained w path room → ⊥

-- the problem has the least slack of the design, and no path exactly where no path is constrained
pub record HasSlackOf (w : View) (p : Problem) : Type 0 where
  pub least : (s : ℤ) → IsLeastSlack p s ↔ IsLeastPathSlack w s
  pub none : HasNoPath p ↔ HasNoConstrainedPath w

-- an arc as an item from pin to pin
abbrev pub arc_item : Arc → Item
arc_item a = record { from = record { 0 = a.from }; to = record { 0 = a.to }; least = a.least; greatest = pos 0; weight = 0 }
