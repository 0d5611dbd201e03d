use Rattle.std.proofs.Common.{◌≡◌, ◌+ℤ◌, ◌-ℤ◌, ◌^◌, ℤ, ℕ, pos, to_z, of_z, arith, nat_eq, IsTrue, ap, sym, ◌∙◌}
use mir.Syntax.{w64}
use Rattle.std.proofs.lemmas.Int.{ints}
use Rattle.std.proofs.lemmas.Bool.Decides.{nat_tests}
use Rattle.residual.specs.Bounds.{IsWithin}
use Rattle.residual.proofs.tests.is_tight.Goals as goal

is_zero : (n : ℕ) → IsTrue (nat_eq n 0) → n ≡ 0
is_zero n is = grind (arith, nat_tests)

nothing : (cost to from : ℤ) → IsWithin (pos (2 ^ 60)) cost → IsWithin (pos (2 ^ 60)) to → IsWithin (pos (2 ^ 60)) from
    → of_z w64 (to_z w64 (of_z w64 cost) +ℤ to_z w64 (of_z w64 (to_z w64 (of_z w64 to) -ℤ to_z w64 (of_z w64 from)))) ≡ 0 → cost +ℤ (to -ℤ from) ≡ pos 0
nothing cost to from a b c is =
    let same_cost : to_z w64 (of_z w64 cost) ≡ cost = omega (arith, ints, a.low, a.high) in
    let same_to : to_z w64 (of_z w64 to) ≡ to = omega (arith, ints, b.low, b.high) in
    let same_from : to_z w64 (of_z w64 from) ≡ from = omega (arith, ints, c.low, c.high) in
    let plain : of_z w64 (cost +ℤ to_z w64 (of_z w64 (to -ℤ from))) ≡ 0 = rw (same_cost, same_to, same_from) at is in
    let same_gain : to_z w64 (of_z w64 (to -ℤ from)) ≡ to -ℤ from = omega (arith, ints, b.low, b.high, c.low, c.high) in
    let plainer : of_z w64 (cost +ℤ (to -ℤ from)) ≡ 0 = rw same_gain at plain in
    let whole : to_z w64 (of_z w64 (cost +ℤ (to -ℤ from))) ≡ cost +ℤ (to -ℤ from) = omega (arith, ints, a.low, a.high, b.low, b.high, c.low, c.high) in
    sym whole ∙ ap (to_z w64) plainer

pub returns : goal.returns
returns c is =
    rw (← c.potential.ensures.potential, ← c.potential-2.ensures.potential)
    (nothing c.args.look.cost c.potential.result c.potential-2.result c.requires.cost c.potential.ensures.small c.potential-2.ensures.small (is_zero _ is))
