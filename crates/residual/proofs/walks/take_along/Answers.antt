use Rattle.std.proofs.Common.{◌≡◌, ◌≤ℤ◌, ◌-ℤ◌, ◌^◌, ℕ, ℤ, pos, to_z, of_z, arith, sym, subst}
use mir.Syntax.{w128}
use mir.Val.{SFits}
use Rattle.std.proofs.lemmas.Int.{ints, to_z-of_z}
use Rattle.bud_base.specs.declared.ids.NodeId.{NodeId}
use Rattle.residual.specs.Bounds.{IsWithin}
use Rattle.residual.specs.Walks.{CarryOnWalk, AreTakenOff}
use Rattle.residual.proofs.Walking.{AreTakenOff-none, AreTakenOff-more, marked_before, marked-within}
use Rattle.residual.proofs.walks.take_along.Goals as goal

negated : (amount : ℤ) → SFits w128 amount → pos 0 ≤ℤ amount → amount ≤ℤ pos (2 ^ 80) → to_z w128 (of_z w128 (pos 0 -ℤ to_z w128 (of_z w128 amount))) ≡ pos 0 -ℤ to_z w128 (of_z w128 amount)
negated amount fits positive small = omega (arith, ints, positive, small)

small_flow : (old mid : ℤ) (a : ℤ) → pos 0 ≤ℤ old → old ≤ℤ pos (2 ^ 80) → mid ≤ℤ old → pos 0 ≤ℤ mid → IsWithin (pos (2 ^ 120)) mid
small_flow old mid a least most less still = record { low = omega (arith, ints, still); high = omega (arith, ints, most, less) }

pub walk-init : goal.walk-init
walk-init c =
    let same : to_z w128 (of_z w128 c.args.amount) ≡ c.args.amount = to_z-of_z w128 c.args.amount c.ranges.amount in
    AreTakenOff-none c.args.arcs.now c.args.root.0 c.args.flows.now c.args.ways.now c.args.node.0 _ c.requires.node (omega (arith, ints, same, c.requires.least))

pub way_from-way-requires-clause-node : goal.way_from-way-requires-clause-node
way_from-way-requires-clause-node c = marked-within c.args.ways.now c.walk.at.0 (marked_before c.args.ways.now c.args.root.0 c.walk.at.0 c.walk.invariant.open_end c.walk-test.true)

pub way_from-way-requires-clause-marked : goal.way_from-way-requires-clause-marked
way_from-way-requires-clause-marked c = marked_before c.args.ways.now c.args.root.0 c.walk.at.0 c.walk.invariant.open_end c.walk-test.true

pub add_at-requires-clause-place : goal.add_at-requires-clause-place
add_at-requires-clause-place c = omega (arith, c.requires.sizes, c.walk.invariant.less.size, (c.requires.ways.1.1.each c.walk.at.0 c.way_from-way.result c.way_from-way.ensures).below)

pub add_at-requires-clause-number : goal.add_at-requires-clause-number
add_at-requires-clause-number c =
    let one = c.requires.ways.1.1.each c.walk.at.0 c.way_from-way.result c.way_from-way.ensures in
    let carries = c.requires.flows c.way_from-way.result.arc one.below in
    small_flow _ _ (pos 0) carries.least (omega (arith, ints, carries.most, carries.limit)) (c.walk.invariant.less.less c.way_from-way.result.arc) (c.walk.invariant.less.least c.way_from-way.result.arc carries.least)

pub walk-preserved : goal.walk-preserved
walk-preserved c =
    let are = c.requires.ways.1.1 in
    let same : to_z w128 (of_z w128 c.args.amount) ≡ c.args.amount = to_z-of_z w128 c.args.amount c.ranges.amount in
    let A : ℤ → Type 0 = λ a. CarryOnWalk c.args.arcs.now c.args.flows.now c.args.ways.now c.args.node.0 a in
    let P : NodeId → Type 0 = λ n. AreTakenOff c.args.arcs.now c.args.root.0 c.args.flows.now c.add_at.new.numbers c.args.ways.now c.args.node.0 (to_z w128 (of_z w128 c.args.amount)) n.0 in
    subst P (sym c.head_of-at.ensures)
    (AreTakenOff-more c.args.arcs.now c.args.root.0 c.args.flows.now c.walk.flows c.add_at.new.numbers c.args.ways.now c.requires.ways.0 c.requires.ways.1.0 c.args.node.0 _ _ c.walk.at.0 c.way_from-way.result are c.requires.sizes
    (omega (arith, ints, same, c.requires.least)) (subst A (sym same) c.requires.carried) c.walk.invariant c.way_from-way.ensures
    (negated c.args.amount c.ranges.amount c.requires.least c.requires.small) c.add_at.ensures)

pub head_of-at-requires : goal.head_of-at-requires
head_of-at-requires c = (c.requires.ways.1.1.each c.walk.at.0 c.way_from-way.result c.way_from-way.ensures).below

pub returns : goal.returns
returns c =
    let P : ℤ → Type 0 = λ a. AreTakenOff c.args.arcs.now c.args.root.0 c.args.flows.now c.walk.flows c.args.ways.now c.args.node.0 a c.walk.at.0 in
    let Q : ℕ → Type 0 = λ v. AreTakenOff c.args.arcs.now c.args.root.0 c.args.flows.now c.walk.flows c.args.ways.now c.args.node.0 c.args.amount v in
    subst Q c.walk-test.false (subst P (to_z-of_z w128 c.args.amount c.ranges.amount) c.walk.invariant)
