use Rattle.std.proofs.Common.{◌≡◌, ◌-ℤ◌, ℤ, pos, ◌<◌, ◌^◌, to_z, of_z, w64, length, arith, refl, ap, ◌∙◌}
use Rattle.std.proofs.lemmas.Int.{ints}
use Rattle.residual.specs.Bounds.{IsWithin}
use Rattle.flow_solver.specs.Entries.{label_at}
use Rattle.flow_solver.specs.Spreading.{entries_of}
use Rattle.flow_solver.proofs.Raising.{IsLiftedAt-root, IsLiftedAt-lifted}
use Rattle.flow_solver.proofs.pushes.lift_taken.Goals as goal

-- a difference of labels, as the code has it
told : (last label a b : ℤ) → last ≡ a → label ≡ b → IsWithin (pos (2 ^ 60)) a → IsWithin (pos (2 ^ 60)) b → to_z w64 (of_z w64 (to_z w64 (of_z w64 last) -ℤ to_z w64 (of_z w64 label))) ≡ a -ℤ b
told last label a b is_a is_b a_small b_small = omega (arith, ints, a_small.low, a_small.high, b_small.low, b_small.high)

pub lift-requires-clause-small : goal.lift-requires-clause-small
lift-requires-clause-small c =
    let same_last : to_z w64 (of_z w64 c.args.last) ≡ c.args.last = omega (arith, ints, c.ranges.last.sfits) in
    let by = told c.args.last c.label_to.result c.args.last _ refl (c.label_to.ensures ∙ ap (λ x. label_at (entries_of c.args.front.now.entries) x c.args.node.0) same_last) c.requires.last c.requires.label in
    let small = c.requires.small (omega (arith, c.requires.node, c.if-node-nodes.false)) in
    record { low = omega (arith, ints, by, small.low); high = omega (arith, ints, by, small.high) }

pub returns : goal.returns
returns c =
    let same_last : to_z w64 (of_z w64 c.args.last) ≡ c.args.last = omega (arith, ints, c.ranges.last.sfits) in
    let by = told c.args.last c.label_to.result c.args.last _ refl (c.label_to.ensures ∙ ap (λ x. label_at (entries_of c.args.front.now.entries) x c.args.node.0) same_last) c.requires.last c.requires.label in
    let there : c.args.node.0 < length c.args.net.now.potentials = omega (arith, c.requires.node, c.requires.nodes, c.requires.lawful.sizes.potentials) in
    IsLiftedAt-lifted c.args.net.now c.lift.new.self c.args.node.0 (c.args.last -ℤ label_at (entries_of c.args.front.now.entries) c.args.last c.args.node.0) _ there by c.lift.ensures.lifted c.lift.ensures.lawful

pub returns-then-node-nodes : goal.returns-then-node-nodes
returns-then-node-nodes c =
    let label : label_at (entries_of c.args.front.now.entries) c.args.last c.args.node.0 ≡ c.args.last = ap (label_at (entries_of c.args.front.now.entries) c.args.last) c.if-node-nodes.true ∙ c.requires.root in
    IsLiftedAt-root c.args.net.now c.args.node.0 (c.args.last -ℤ label_at (entries_of c.args.front.now.entries) c.args.last c.args.node.0) c.requires.lawful (omega (arith, ints, label))
