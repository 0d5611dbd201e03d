use Rattle.std.proofs.Common.{arith, ◌≡◌, pos, ◌-ℤ◌, to_z, of_z, w64}
use Rattle.std.proofs.lemmas.Int.{ints}
use Rattle.plan_cert.proofs.TotalLemmas.{product-same, item_value-above}
use Rattle.plan_cert.proofs.weights.item_worth.Goals as goal

pub returns-else-flow-weight-clause-value : goal.returns-else-flow-weight-clause-value
returns-else-flow-weight-clause-value c =
    let surplus : to_z w64 (of_z w64 (to_z w64 (of_z w64 c.args.flow) -ℤ to_z w64 (of_z w64 c.from-weight.result))) ≡ c.args.flow -ℤ pos c.args.item.weight = omega (arith, ints) in
    let least : to_z w64 (of_z w64 c.args.item.least) ≡ c.args.item.least = omega (arith, ints) in
    let worth = product-same _ _ _ _ _ c.product-else-flow-weight.ensures.value surplus least in
    item_value-above c.args.item c.args.flow _ (omega (arith, ints)) (omega (arith, ints, worth, c.product-else-flow-weight.ensures.range))

pub returns-else-flow-weight-clause-range : goal.returns-else-flow-weight-clause-range
returns-else-flow-weight-clause-range c = record {
  low = omega (arith, ints, c.product-else-flow-weight.ensures.range);
  high = omega (arith, ints, c.product-else-flow-weight.ensures.range);
}
