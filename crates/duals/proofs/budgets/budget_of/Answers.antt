use Rattle.std.proofs.Common.{arith}
use Rattle.std.proofs.lemmas.Int.{ints}
use Rattle.duals.specs.Duals.{gain_along}
use Rattle.duals.proofs.Slackness.{lesser-first, lesser-second}
use Rattle.duals.proofs.budgets.budget_of.Goals as goal

pub returns-then-gain-item : goal.returns-then-gain-item
returns-then-gain-item c =
    let is = lesser-first (gain_along c.args.net.now.potentials c.args.item.now) c.args.item.now.greatest
    (omega (arith, ints, c.if-gain-item.true, c.potential.ensures.potential, c.potential-2.ensures.potential, c.potential.ensures.small, c.potential-2.ensures.small)) in
    omega (arith, ints, is, c.potential.ensures.potential, c.potential-2.ensures.potential, c.potential.ensures.small, c.potential-2.ensures.small)

pub returns-else-gain-item : goal.returns-else-gain-item
returns-else-gain-item c =
    let is = lesser-second (gain_along c.args.net.now.potentials c.args.item.now) c.args.item.now.greatest
    (omega (arith, ints, c.if-gain-item.false, c.potential.ensures.potential, c.potential-2.ensures.potential, c.potential.ensures.small, c.potential-2.ensures.small)) in
    omega (arith, ints, is)
