use Rattle.std.proofs.Common.{arith, pos}
use Rattle.std.proofs.lemmas.Int.{ints}
use Rattle.bud_base.specs.Paths.{item_at}
use Rattle.bud_flow.specs.Sums.{number_at}
use Rattle.duals.proofs.TermLemmas.{IsSmallTotal-more, product-is}
use Rattle.duals.proofs.budgets.weight_of.Goals as goal

pub loop-i-preserved : goal.loop-i-preserved
loop-i-preserved c =
    let small = c.requires.budgets c.loop-i.i (pos 0) (omega (arith, c.requires.size)) in
    IsSmallTotal-more _ c.loop-i.i _ c.product-total.result _ c.loop-i.invariant c.product-total.ensures.small
    (product-is c.product-total.result (pos (item_at c.args.items.now c.loop-i.i).weight) _ (number_at c.args.budgets.now c.loop-i.i) c.product-total.ensures.value (omega (arith, ints, small.0, small.1)))
    (omega (arith, ints, c.loop-i.invariant, c.product-total.ensures.small, c.loop-i-test.true))
