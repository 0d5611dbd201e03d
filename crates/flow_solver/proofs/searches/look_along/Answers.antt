use Rattle.std.proofs.Common.{◌≡◌, ℤ, pos, ◌<ℤ◌, ◌≤ℤ◌, ◌^◌, List, Option, to_z, of_z, w64, arith, ap, sym, ◌∙◌}
use mir.Syntax.{w128}
use Rattle.std.proofs.lemmas.Int.{ints}
use Rattle.residual.specs.Bounds.{IsWithin}
use Rattle.search_heap.specs.Searches.{Searched}
use Rattle.search_heap.specs.declared.entries.Entry.{Entry as Found}
use Rattle.flow_solver.proofs.Looking.{looked-none, looked-some}
use Rattle.flow_solver.proofs.searches.look_along.Goals as goal

same : (told distance : ℤ) → IsWithin (pos (2 ^ 62)) told → told ≡ distance → to_z w64 (of_z w64 told) ≡ distance
same told distance within is = omega (arith, ints, within.low, within.high, is)

pub returns-then-look-le0 : goal.returns-then-look-le0
returns-then-look-le0 g c =
    let told : to_z w128 (of_z w128 c.look-look.result.room) ≡ c.look-look.result.room = omega (arith, ints, c.look-look.ensures.room.low, c.look-look.ensures.room.high) in
    let none : c.look-look.result.room ≤ℤ pos 0 = grind (arith, ints, told, c.if-look-le0.true) in
    let rest : List (Option Found) → Searched = λ found. record c.args.front.now { entries = found } in
    ap rest (sym (looked-none c.args.net.now c.args.near.distance c.args.arc c.args.front.now.entries c.look-look.result c.look-look.ensures.look none))

pub returns : goal.returns
returns g c =
    let told : to_z w128 (of_z w128 c.look-look.result.room) ≡ c.look-look.result.room = omega (arith, ints, c.look-look.ensures.room.low, c.look-look.ensures.room.high) in
    let some : pos 0 <ℤ c.look-look.result.room = grind (arith, ints, told, c.if-look-le0.false) in
    let rest : List (Option Found) → Searched = λ found. record c.args.front.now { entries = found } in
    c.reach.ensures ∙ ap rest
    (looked-some c.args.net.now c.args.near.distance _ c.args.arc c.args.front.now.entries c.look-look.result c.look-look.ensures.look some
    (same c.distance_along-distance.result _ c.distance_along-distance.ensures.within c.distance_along-distance.ensures.distance))
