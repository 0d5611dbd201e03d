-- Along arcs inside a block without through pins the class stays, and their last pin is inside.
use Rattle.std.specs.Prelude.{◌≡◌, ℕ, suc, true, List, [], ◌∷◌, map, All, None}
use Rattle.std.proofs.Common.{refl, ◌∙◌, subst, arith}
use Rattle.bud_base.specs.declared.ids.ArcId.{ArcId}
use Rattle.bud_design.specs.declared.clocks.Constraints.{Constraints}
use Rattle.bud_design.specs.declared.layers.Class.{Class}
use Rattle.bud_design.specs.Arcs.{Arc, arc_at}
use Rattle.bud_design.specs.Designs.{Design, pin_at, is_inside}
use Rattle.bud_design.specs.DesignRules.{IsDesign}
use Rattle.bud_design.specs.Exceptions.{class_at}
use Rattle.bud_design.specs.Layers.{walk_of}
use Rattle.bud_design.specs.Reaching.{pin_behind, Joined, along}
use Rattle.bud_design.specs.TimingPaths.{View}
use Rattle.block_theory.specs.Blocks.{IsBlock, is_arc_in, through_inside}
use Rattle.block_theory.proofs.Groups.{class_at-inside}
use Rattle.block_theory.proofs.Insides.{EndsInside-arc}
use Rattle.block_laws.specs.Standing.{HaveHomes}

module _ (d : Design) (arcs : List Arc) (all : Constraints) (design : IsDesign d) (homes : HaveHomes d arcs) (b : ℕ) (block : IsBlock d b) where
  abbrev read : View
  read = record { design = d; root = 0; arcs = arcs; all = all }

  pub stays : through_inside d (b ∷ []) all.exceptions ≡ None → (xs : List ArcId) (u v : ℕ) (k : Class) → Joined (walk_of read) u xs v → All (λ x. is_arc_in d arcs b x ≡ true) xs
      → along (walk_of read) k (map (pin_behind (walk_of read)) xs) ≡ k
  stays through [] u v k joined inner = refl
  stays through (x ∷ xs) u v k joined inner =
      let ends = EndsInside-arc d design b block (arc_at arcs x.0) (homes x.0 joined.0.0) (inner 0 x (omega arith)) in
      stays through xs (arc_at arcs x.0).to v (class_at all k (arc_at arcs x.0).to) joined.2 (λ j e less. inner (suc j) e (omega (arith, less)))
      ∙ class_at-inside d b (arc_at arcs x.0).to all k through ends.to

  pub last-inside : (x : ArcId) (xs : List ArcId) (u v : ℕ) → Joined (walk_of read) u (x ∷ xs) v → All (λ x. is_arc_in d arcs b x ≡ true) (x ∷ xs)
      → is_inside d.places b (pin_at d.pins v).place ≡ true
  last-inside x [] u v joined inner =
      let ends = EndsInside-arc d design b block (arc_at arcs x.0) (homes x.0 joined.0.0) (inner 0 x (omega arith)) in
      subst (λ z. is_inside d.places b (pin_at d.pins z).place ≡ true) joined.2 ends.to
  last-inside x (y ∷ ys) u v joined inner = last-inside y ys (arc_at arcs x.0).to v joined.2 (λ j e less. inner (suc j) e (omega (arith, less)))

  pub first-inside : (x : ArcId) (xs : List ArcId) (u v : ℕ) → Joined (walk_of read) u (x ∷ xs) v → is_arc_in d arcs b x ≡ true → is_inside d.places b (pin_at d.pins u).place ≡ true
  first-inside x xs u v joined inner =
      let ends = EndsInside-arc d design b block (arc_at arcs x.0) (homes x.0 joined.0.0) inner in
      subst (λ z. is_inside d.places b (pin_at d.pins z).place ≡ true) joined.1 ends.from
