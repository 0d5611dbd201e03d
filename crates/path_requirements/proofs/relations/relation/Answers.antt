use Rattle.std.proofs.Common.{rules, ap, ◌∙◌, ◌≡◌, pos, ◌-ℤ◌, refl, arith, sym, subst, to_z, of_z, w64}
use Rattle.std.proofs.lemmas.Int.{ints}
use Rattle.bud_design.specs.Clocks.{relation, IsRelation, edge_time, or_whole}
use Rattle.std.specs.Int.{int_rem_euclid}
use Rattle.bud_design.proofs.RequirementRanges.{relation-within}
use Rattle.path_requirements.proofs.RelationLaws.{relation-from_parts, IsRelation-relation}
use Rattle.path_requirements.proofs.relations.relation.Goals as goal
use Rattle.path_requirements.proofs.relations.relation.Goals.{After-left_over}

value : (c : After-left_over) → to_z w64 (of_z w64 c.left_over.result) ≡ relation c.args.launch.now c.args.edge c.args.capture.now c.args.at
value c =
    let within = relation-within c.args.launch.now c.args.capture.now c.args.edge c.args.at c.requires.launch c.requires.capture in
    let is = relation-from_parts c.args.launch.now c.args.capture.now c.args.edge c.args.at (edge_time c.args.capture.now c.args.at -ℤ edge_time c.args.launch.now c.args.edge) c.common_divisor.result c.left_over.result refl (search rules)
    (c.left_over.ensures ∙ ap (λ z. or_whole (int_rem_euclid z (pos c.common_divisor.result)) (pos c.common_divisor.result)) (omega (arith, ints))) in
    omega (arith, ints, is, within.least, within.most)

pub returns-clause-value : goal.returns-clause-value
returns-clause-value c = value (goal.at.returns-clause-value c).After-left_over

pub returns-clause-least : goal.returns-clause-least
returns-clause-least c =
    subst (IsRelation c.args.launch.now c.args.edge c.args.capture.now c.args.at) (sym (value (goal.at.returns-clause-least c).After-left_over))
    (IsRelation-relation c.args.launch.now c.args.capture.now c.args.edge c.args.at c.requires.launch c.requires.capture)

pub returns-clause-low : goal.returns-clause-low
returns-clause-low c =
    let within = relation-within c.args.launch.now c.args.capture.now c.args.edge c.args.at c.requires.launch c.requires.capture in
    omega (arith, ints, value (goal.at.returns-clause-low c).After-left_over, within.least)

pub returns-clause-high : goal.returns-clause-high
returns-clause-high c =
    let within = relation-within c.args.launch.now c.args.capture.now c.args.edge c.args.at c.requires.launch c.requires.capture in
    omega (arith, ints, value (goal.at.returns-clause-high c).After-left_over, within.most)
