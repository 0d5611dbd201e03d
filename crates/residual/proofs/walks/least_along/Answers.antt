use Rattle.std.proofs.Common.{◌≡◌, ◌≤ℤ◌, ◌^◌, ◌⊎◌, ℤ, pos, to_z, of_z, arith, refl, sym, subst, ◌∙◌, inl, inr}
use mir.Syntax.{w128}
use mir.Val.{SFits}
use Rattle.std.proofs.lemmas.Int.{ints, to_z-of_z}
use Rattle.bud_base.specs.declared.ids.NodeId.{NodeId}
use Rattle.bud_flow.specs.Sums.{number_at}
use Rattle.residual.proofs.Walking.{IsLeastAlong, IsLeastAlong-first, IsLeastAlong-more, CarryOnWalk-all, marked_before, marked-within}
use Rattle.residual.proofs.walks.least_along.Goals as goal

-- the smaller of two amounts, of which the code tells
picked : (told one other : ℤ) (shown a b : ℤ) → told ≡ shown → one ≡ a → other ≡ b → (shown ≡ one) ⊎ (shown ≡ other) → (told ≡ a) ⊎ (told ≡ b)
picked told one other shown a b is is_one is_other which = elim which [ inl e ↦ inl (is ∙ e ∙ is_one) | inr e ↦ inr (is ∙ e ∙ is_other) ]

flow_same : (r flow : ℤ) → r ≡ flow → pos 0 ≤ℤ flow → flow ≤ℤ pos (2 ^ 80) → to_z w128 (of_z w128 r) ≡ flow
flow_same r flow is least most = omega (arith, ints, is, least, most)

pub walk-init : goal.walk-init
walk-init c =
    let same : to_z w128 (of_z w128 c.args.most) ≡ c.args.most = to_z-of_z w128 c.args.most c.ranges.most in
    IsLeastAlong-first c.args.arcs.now c.args.flows.now c.args.ways.now c.args.root.0 c.args.node.0 _ _ c.requires.node (omega (arith, ints, same, c.requires.positive)) refl

pub way_from-way-requires-clause-node : goal.way_from-way-requires-clause-node
way_from-way-requires-clause-node c = marked-within c.args.ways.now c.walk.at.0 (marked_before c.args.ways.now c.args.root.0 c.walk.at.0 c.walk.invariant.open_end c.walk-test.true)

pub way_from-way-requires-clause-marked : goal.way_from-way-requires-clause-marked
way_from-way-requires-clause-marked c = marked_before c.args.ways.now c.args.root.0 c.walk.at.0 c.walk.invariant.open_end c.walk-test.true

pub flow_in-requires : goal.flow_in-requires
flow_in-requires c = omega (arith, c.requires.sizes, (c.requires.ways.1.1.each c.walk.at.0 c.way_from-way.result c.way_from-way.ensures).below)

pub head_of-at-requires : goal.head_of-at-requires
head_of-at-requires c = (c.requires.ways.1.1.each c.walk.at.0 c.way_from-way.result c.way_from-way.ensures).below

pub walk-preserved : goal.walk-preserved
walk-preserved c =
    let are = c.requires.ways.1.1 in
    let one = are.each c.walk.at.0 c.way_from-way.result c.way_from-way.ensures in
    let carries = c.requires.flows c.way_from-way.result.arc one.below in
    let fits : SFits w128 c.smaller-least.result = record { sfits = c.smaller-least.type_inv } in
    let told : to_z w128 (of_z w128 c.smaller-least.result) ≡ c.smaller-least.result = to_z-of_z w128 c.smaller-least.result fits in
    let flow = flow_same c.flow_in.result (number_at c.args.flows.now c.way_from-way.result.arc) c.flow_in.ensures carries.least (omega (arith, ints, carries.most, carries.limit)) in
    let P : NodeId → Type 0 = λ n. IsLeastAlong c.args.arcs.now c.args.flows.now c.args.ways.now c.args.root.0 c.args.node.0 (to_z w128 (of_z w128 c.args.most)) (to_z w128 (of_z w128 c.smaller-least.result)) n.0 in
    subst P (sym c.head_of-at.ensures)
    (IsLeastAlong-more c.args.arcs.now c.args.flows.now c.args.ways.now c.requires.ways.0 c.args.root.0 c.requires.ways.1.0 c.args.node.0 _ _ _ c.walk.at.0 c.way_from-way.result are carries.least c.walk.invariant c.way_from-way.ensures
    (omega (arith, ints, told, c.smaller-least.ensures.one)) (omega (arith, ints, told, flow, c.smaller-least.ensures.other))
    (picked _ _ _ c.smaller-least.result _ _ told refl flow c.smaller-least.ensures.either))

pub returns-clause-carried : goal.returns-clause-carried
returns-clause-carried c =
    CarryOnWalk-all c.args.arcs.now c.args.flows.now c.args.ways.now c.args.root.0 c.args.node.0 _ _ c.walk.at.0 c.requires.ways.1.1.bare c.walk-test.false c.walk.invariant
