use Rattle.std.proofs.Common.{◌≡◌, ◌≤ℤ◌, ◌-ℤ◌, ◌^◌, ℤ, pos, to_z, of_z, arith, subst}
use mir.Syntax.{w128}
use mir.Val.{SFits}
use Rattle.std.proofs.lemmas.Int.{ints, to_z-of_z}
use Rattle.bud_base.specs.declared.ids.NodeId.{NodeId}
use Rattle.bud_flow.specs.Sums.{number_at}
use Rattle.residual.specs.Bounds.{IsWithin}
use Rattle.residual.specs.Walks.{AreTakenOff}
use Rattle.residual.proofs.Walking.{IsWalkTaken-whole}
use Rattle.residual.proofs.walks.take_walk.Goals as goal

negated : (amount : ℤ) → SFits w128 amount → pos 0 ≤ℤ amount → amount ≤ℤ pos (2 ^ 80) → to_z w128 (of_z w128 (pos 0 -ℤ to_z w128 (of_z w128 amount))) ≡ pos 0 -ℤ to_z w128 (of_z w128 amount)
negated amount fits positive small = omega (arith, ints, positive, small)

-- the amount is at most the start's flow
most_is : (amount told flow : ℤ) → amount ≤ℤ to_z w128 (of_z w128 told) → told ≡ flow → pos 0 ≤ℤ flow → flow ≤ℤ pos (2 ^ 80) → amount ≤ℤ flow
most_is amount told flow most is least small = omega (arith, ints, most, is, least, small)

small_negated : (amount : ℤ) → pos 0 ≤ℤ amount → amount ≤ℤ pos (2 ^ 80) → IsWithin (pos (2 ^ 80)) (to_z w128 (of_z w128 (pos 0 -ℤ to_z w128 (of_z w128 amount))))
small_negated amount positive small = record { low = omega (arith, ints, positive, small); high = omega (arith, ints, positive, small) }

pub add_at-requires-clause-amount : goal.add_at-requires-clause-amount
add_at-requires-clause-amount c =
    let carries = c.requires.flows c.args.start c.requires.below in
    let small : number_at c.args.flows.now c.args.start ≤ℤ pos (2 ^ 80) = omega (arith, ints, carries.most, carries.limit) in
    let most = most_is c.least_along-amount.result c.flow_in.result (number_at c.args.flows.now c.args.start) c.least_along-amount.ensures.most c.flow_in.ensures carries.least small in
    small_negated c.least_along-amount.result c.least_along-amount.ensures.least (omega (arith, ints, most, small))

pub returns : goal.returns
returns c =
    let carries = c.requires.flows c.args.start c.requires.below in
    let small : number_at c.args.flows.now c.args.start ≤ℤ pos (2 ^ 80) = omega (arith, ints, carries.most, carries.limit) in
    let most = most_is c.least_along-amount.result c.flow_in.result (number_at c.args.flows.now c.args.start) c.least_along-amount.ensures.most c.flow_in.ensures carries.least small in
    let fits : SFits w128 c.least_along-amount.result = record { sfits = c.least_along-amount.type_inv } in
    let same : to_z w128 (of_z w128 c.least_along-amount.result) ≡ c.least_along-amount.result = to_z-of_z w128 c.least_along-amount.result fits in
    let P : NodeId → Type 0 = λ n. AreTakenOff c.args.arcs.now c.args.root.0 c.args.flows.now c.take_along.new.flows c.args.ways.now n.0 (to_z w128 (of_z w128 c.least_along-amount.result)) c.args.root.0 in
    IsWalkTaken-whole c.args.arcs.now c.args.root.0 c.args.first c.args.start c.args.flows.now c.take_along.new.flows c.add_at.new.numbers c.args.ways.now c.requires.ways.0 _ _ c.requires.ways.1 c.requires.sizes
    c.requires.below c.requires.above c.requires.root (omega (arith, ints, same, c.least_along-amount.ensures.least)) (λ have. omega (arith, ints, same, c.least_along-amount.ensures.positive have)) (omega (arith, ints, same, most))
    (subst P c.head_of-node.ensures c.take_along.ensures) (negated c.least_along-amount.result fits c.least_along-amount.ensures.least (omega (arith, ints, most, small))) c.add_at.ensures
