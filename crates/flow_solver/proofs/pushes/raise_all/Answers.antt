use Rattle.std.proofs.Common.{◌≡◌, ℕ, ℤ, pos, ◌-ℤ◌, ◌+◌, ◌<◌, ◌^◌, to_z, of_z, w64, length, arith, sym, ap, subst, ◌∙◌}
use Rattle.std.proofs.lemmas.Int.{ints}
use Rattle.bud_flow.specs.Sums.{number_at}
use Rattle.residual.specs.Bounds.{IsWithin}
use Rattle.residual.specs.Networks.{Network}
use Rattle.flow_solver.specs.Entries.{label_at}
use Rattle.flow_solver.specs.Lifts.{AreLifted, AreLiftedBelow}
use Rattle.flow_solver.proofs.Lifting.{AreLiftedBelow-more, AreLifted-all}
use Rattle.flow_solver.specs.Spreading.{entries_of}
use Rattle.flow_solver.proofs.pushes.raise_all.Goals as goal

-- a difference of labels, as the code has it
told : (root label a b : ℤ) → root ≡ a → label ≡ b → IsWithin (pos (2 ^ 60)) a → IsWithin (pos (2 ^ 60)) b → to_z w64 (of_z w64 (to_z w64 (of_z w64 root) -ℤ to_z w64 (of_z w64 label))) ≡ a -ℤ b
told root label a b is_a is_b a_small b_small = omega (arith, ints, a_small.low, a_small.high, b_small.low, b_small.high)

pub lift-requires-clause-small : goal.lift-requires-clause-small
lift-requires-clause-small c =
    let same_last : to_z w64 (of_z w64 c.args.last) ≡ c.args.last = omega (arith, ints, c.ranges.last.sfits) in
    let node : ℕ = c.loop-node.node in
    let by = told c.label_to-root.result c.label_to.result _ _
    (c.label_to-root.ensures ∙ ap (λ x. label_at (entries_of c.args.front.now.entries) x c.args.nodes) same_last) (c.label_to.ensures ∙ ap (λ x. label_at (entries_of c.args.front.now.entries) x node) same_last)
    (c.requires.labels c.args.nodes (omega arith)) (c.requires.labels node (omega (arith, c.loop-node-test.true))) in
    let was : number_at c.loop-node.net.potentials node ≡ number_at c.args.net.now.potentials node = c.loop-node.invariant.others node (omega arith) in
    let small = c.requires.small node c.loop-node-test.true in
    record { low = omega (arith, ints, by, was, small.low); high = omega (arith, ints, by, was, small.high) }

pub loop-node-preserved : goal.loop-node-preserved
loop-node-preserved c =
    let same_last : to_z w64 (of_z w64 c.args.last) ≡ c.args.last = omega (arith, ints, c.ranges.last.sfits) in
    let last : ℤ = to_z w64 (of_z w64 c.args.last) in
    let node : ℕ = c.loop-node.node in
    let small : (v : ℕ) → v < c.args.nodes + 1 → IsWithin (pos (2 ^ 60)) (label_at (entries_of c.args.front.now.entries) last v)
    = λ v below. subst (IsWithin (pos (2 ^ 60))) (ap (λ x. label_at (entries_of c.args.front.now.entries) x v) (sym same_last)) (c.requires.labels v below) in
    let by = told c.label_to-root.result c.label_to.result _ _ c.label_to-root.ensures c.label_to.ensures (small c.args.nodes (omega arith)) (small node (omega (arith, c.loop-node-test.true))) in
    let root : label_at (entries_of c.args.front.now.entries) last c.args.nodes ≡ label_at (entries_of c.args.front.now.entries) last c.args.net.now.nodes = ap (label_at (entries_of c.args.front.now.entries) last) (sym c.requires.nodes) in
    let size : length c.loop-node.net.potentials ≡ c.loop-node.net.nodes + 1 = c.loop-node.invariant.lawful.sizes.potentials in
    let nodes : c.loop-node.net.nodes ≡ c.args.net.now.nodes = ap (λ (n : Network). n.nodes) c.loop-node.invariant.same in
    AreLiftedBelow-more c.args.net.now c.loop-node.net c.lift.new.self (label_at (entries_of c.args.front.now.entries) last) node _ (omega (arith, size, nodes, c.requires.nodes, c.loop-node-test.true)) c.loop-node.invariant
    (by ∙ ap (λ x. x -ℤ label_at (entries_of c.args.front.now.entries) last node) root) c.lift.ensures.lifted c.lift.ensures.lawful

pub returns-clause-lifted : goal.returns-clause-lifted
returns-clause-lifted c =
    let same_last : to_z w64 (of_z w64 c.args.last) ≡ c.args.last = omega (arith, ints, c.ranges.last.sfits) in
    let last : ℤ = to_z w64 (of_z w64 c.args.last) in
    let all : c.loop-node.node ≡ c.args.net.now.nodes = omega (arith, c.loop-node-test.false, c.loop-node.auto.node-end, c.requires.nodes) in
    let B : ℕ → Type 0 = λ k. AreLiftedBelow c.args.net.now c.loop-node.net (label_at (entries_of c.args.front.now.entries) last) k in
    let N : ℕ → Type 0 = λ n. AreLifted n c.args.net.now.potentials c.loop-node.net.potentials (label_at (entries_of c.args.front.now.entries) last) in
    let L : ℤ → Type 0 = λ t. AreLifted c.args.nodes c.args.net.now.potentials c.loop-node.net.potentials (label_at (entries_of c.args.front.now.entries) t) in
    subst L same_last (subst N c.requires.nodes (AreLifted-all c.args.net.now c.loop-node.net (label_at (entries_of c.args.front.now.entries) last) (subst B all c.loop-node.invariant)))
