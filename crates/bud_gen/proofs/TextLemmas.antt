-- Texts are added part by part.
use Rattle.std.proofs.Common.{◌≡◌, ◌++◌, List, arith}
use Rattle.std.specs.Prelude.{ℕ}
use Rattle.std.proofs.lemmas.Grind.{common_steps}

pub four_parts : (before first second third last x y z w : List ℕ) → x ≡ before ++ first → y ≡ x ++ second → z ≡ y ++ third → w ≡ z ++ last
    → w ≡ before ++ (first ++ second ++ third ++ last)
four_parts before first second third last x y z w e f g h = grind (arith, common_steps, e, f, g, h)
