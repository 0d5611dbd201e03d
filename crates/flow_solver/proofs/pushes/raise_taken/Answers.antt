use Rattle.std.proofs.Common.{◌≡◌, ℕ, ℤ, pos, ◌<◌, ◌^◌, to_z, of_z, w64, length, arith, sym, ap, subst, ◌∙◌}
use Rattle.std.proofs.lemmas.Int.{ints}
use Rattle.residual.specs.Bounds.{IsWithin}
use Rattle.residual.specs.Networks.{Network}
use Rattle.flow_solver.specs.Entries.{label_at}
use Rattle.flow_solver.specs.Lifts.{AreLifted}
use Rattle.flow_solver.specs.Spreading.{entries_of}
use Rattle.flow_solver.proofs.Raising.{AreLiftedAmong, AreLiftedAmong-none, AreLiftedAmong-more, AreLifted-among, taken-within, not-lifted, taken-node, taken-some}
use Rattle.flow_solver.proofs.pushes.raise_taken.Goals as goal

pub loop-place-init : goal.loop-place-init
loop-place-init c = AreLiftedAmong-none c.args.net.now _ _ c.args.front.now.taken c.requires.lawful

pub unreachable-requires : goal.unreachable-requires
unreachable-requires c = taken-some c.args.front.now.taken c.loop-place.place (omega (arith, c.loop-place-test.true, c.taken_count-place-end.ensures.count)) c.in_default.ensures.node

pub lift_taken-requires-clause-nodes : goal.lift_taken-requires-clause-nodes
lift_taken-requires-clause-nodes c = ap (λ (n : Network). n.nodes) c.loop-place.invariant.same ∙ c.requires.nodes

pub lift_taken-requires-clause-node : goal.lift_taken-requires-clause-node
lift_taken-requires-clause-node c =
    let inside : c.loop-place.place < length c.args.front.now.taken = omega (arith, c.loop-place-test.true, c.taken_count-place-end.ensures.count) in
    omega (
      arith,
      taken-node c.args.front.now.taken c.loop-place.place c.in-Some.node inside c.in-Some.ensures.node,
      taken-within c.args.front.now.entries c.args.front.now.taken c.loop-place.place c.taken_count-place-end.ensures.ordered inside,
      c.requires.size,
    )

pub lift_taken-requires-clause-label : goal.lift_taken-requires-clause-label
lift_taken-requires-clause-label c =
    let same_last : to_z w64 (of_z w64 c.args.last) ≡ c.args.last = omega (arith, ints, c.ranges.last.sfits) in
    let P : ℤ → Type 0 = λ x. IsWithin (pos (2 ^ 60)) (label_at (entries_of c.args.front.now.entries) x c.in-Some.node.0) in
    subst P (sym same_last) (c.requires.labels c.in-Some.node.0 (lift_taken-requires-clause-node c))

pub lift_taken-requires-clause-last : goal.lift_taken-requires-clause-last
lift_taken-requires-clause-last c =
    let same_last : to_z w64 (of_z w64 c.args.last) ≡ c.args.last = omega (arith, ints, c.ranges.last.sfits) in
    let top = c.requires.labels c.args.nodes (omega arith) in
    subst (IsWithin (pos (2 ^ 60))) (c.requires.root ∙ sym same_last) top

pub lift_taken-requires-clause-root : goal.lift_taken-requires-clause-root
lift_taken-requires-clause-root c =
    let same_last : to_z w64 (of_z w64 c.args.last) ≡ c.args.last = omega (arith, ints, c.ranges.last.sfits) in
    let P : ℤ → Type 0 = λ x. label_at (entries_of c.args.front.now.entries) x c.args.nodes ≡ x in
    subst P (sym same_last) c.requires.root

pub lift_taken-requires-clause-small : goal.lift_taken-requires-clause-small
lift_taken-requires-clause-small c = λ below.
    let same_last : to_z w64 (of_z w64 c.args.last) ≡ c.args.last = omega (arith, ints, c.ranges.last.sfits) in
    let inside : c.loop-place.place < length c.args.front.now.taken = omega (arith, c.loop-place-test.true, c.taken_count-place-end.ensures.count) in
    let node : ℕ = c.in-Some.node.0 in
    let was = not-lifted c.args.net.now c.loop-place.net _ _ c.args.front.now.entries c.args.front.now.taken c.loop-place.place node c.taken_count-place-end.ensures.ordered inside
    (taken-node c.args.front.now.taken c.loop-place.place c.in-Some.node inside c.in-Some.ensures.node) c.loop-place.invariant in
    let small = c.requires.small node below in
    let label = ap (λ x. label_at (entries_of c.args.front.now.entries) x node) same_last in
    record { low = omega (arith, ints, was, small.low, c.requires.root, same_last, label); high = omega (arith, ints, was, small.high, c.requires.root, same_last, label) }

pub loop-place-preserved : goal.loop-place-preserved
loop-place-preserved c =
    let inside : c.loop-place.place < length c.args.front.now.taken = omega (arith, c.loop-place-test.true, c.taken_count-place-end.ensures.count) in
    AreLiftedAmong-more c.args.net.now c.loop-place.net c.lift_taken.new.net _ _ c.args.front.now.entries c.args.front.now.taken c.loop-place.place c.in-Some.node.0 c.taken_count-place-end.ensures.ordered inside
    (taken-node c.args.front.now.taken c.loop-place.place c.in-Some.node inside c.in-Some.ensures.node) c.lift_taken.ensures c.loop-place.invariant

pub returns-clause-lifted : goal.returns-clause-lifted
returns-clause-lifted c =
    let same_last : to_z w64 (of_z w64 c.args.last) ≡ c.args.last = omega (arith, ints, c.ranges.last.sfits) in
    let all : c.loop-place.place ≡ length c.args.front.now.taken = omega (arith, c.loop-place-test.false, c.loop-place.auto.place-end, c.taken_count-place-end.ensures.count) in
    let L : ℤ → Type 0 = λ x. AreLiftedAmong c.args.net.now c.loop-place.net (label_at (entries_of c.args.front.now.entries) x) x c.args.front.now.taken c.loop-place.place in
    let N : ℕ → Type 0 = λ n. AreLifted n c.args.net.now.potentials c.loop-place.net.potentials (label_at (entries_of c.args.front.now.entries) c.args.last) in
    subst N c.requires.nodes
    (AreLifted-among c.args.net.now c.loop-place.net c.args.front.now.entries c.args.front.now.taken c.args.last c.loop-place.place all c.taken_count-place-end.ensures.ordered
    (ap (label_at (entries_of c.args.front.now.entries) c.args.last) c.requires.nodes ∙ c.requires.root) (subst L same_last c.loop-place.invariant))
