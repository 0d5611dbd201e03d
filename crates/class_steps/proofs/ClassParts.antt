-- A class is its clock, its edge and its exceptions, and an exception that is met is its number and its steps.
use Rattle.std.proofs.Common.{◌≡◌, ◌==◌, ◌&&◌, refl, arith, eq-eqb}
use Rattle.std.specs.Bool.{Decides}
use Rattle.bud_design.specs.declared.layers.Class.{Class}
use Rattle.bud_design.specs.declared.layers.Met.{Met}

pub Class-same : (j k : Class) → j.clock ≡ k.clock → j.edge ≡ k.edge → j.exceptions ≡ k.exceptions → j ≡ k
Class-same j k clocks edges exceptions = rw (clocks, edges, exceptions) refl

pub Met-decides : (a b : Met) → Decides (a.number == b.number && a.steps == b.steps) (a ≡ b)
Met-decides a b = (
  λ yes. (let numbers : a.number ≡ b.number = grind (arith, yes) in let steps : a.steps ≡ b.steps = grind (arith, yes) in rw (numbers, steps) refl),
  λ same. rw (same, eq-eqb b.number b.number refl, eq-eqb b.steps b.steps refl) refl,
)
