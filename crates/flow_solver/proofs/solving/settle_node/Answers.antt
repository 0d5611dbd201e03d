use Rattle.std.proofs.Common.{arith, refl, inl, inr}
use Rattle.std.proofs.lemmas.Int.{ints}
use Rattle.flow_solver.proofs.Augments.{HasRoom-slack, AreRounds-none, AreRounds-augmented, surplus-falls}
use Rattle.flow_solver.proofs.solving.settle_node.Goals as goal

pub units-init : goal.units-init
units-init g c = (AreRounds-none c.args.net.now c.requires.closed c.requires.slack, c.requires.size, λ some. inl refl)

pub has_excess-requires : goal.has_excess-requires
has_excess-requires g c = omega (arith, c.requires.node, c.units.invariant.0.same.nodes)

pub augment-requires-clause-room : goal.augment-requires-clause-room
augment-requires-clause-room g c = HasRoom-slack c.units.net (c.units.invariant.0.slack c.units-test.ensures.lawful)

pub augment-requires-clause-node : goal.augment-requires-clause-node
augment-requires-clause-node g c = omega (arith, c.requires.node, c.units.invariant.0.same.nodes)

pub augment-requires-clause-size : goal.augment-requires-clause-size
augment-requires-clause-size g c = omega (arith, c.units.invariant.1, c.units.invariant.0.same.nodes)

pub augment-requires-clause-excess : goal.augment-requires-clause-excess
augment-requires-clause-excess g c = c.units-test.ensures.yes refl

pub units-preserved : goal.units-preserved
units-preserved g c = (
  AreRounds-augmented c.args.net.now c.units.net c.augment.new.net c.units.invariant.0 c.units-test.ensures.lawful c.augment.ensures.augmented,
  omega (arith, c.augment.ensures.size, c.units.invariant.0.same.nodes),
  λ some. inr (omega (arith, ints, c.units.invariant.0.fallen, c.augment.ensures.augmented.settled, c.augment.ensures.augmented.positive)),
)

pub units-smaller : goal.units-smaller
units-smaller g c = surplus-falls c.units.net c.augment.new.net c.augment.ensures.augmented

pub returns-clause-less : goal.returns-clause-less
returns-clause-less g c = λ some. elim (c.units.invariant.2 some) [ inl same ↦ absurd (omega (arith, ints, same, some, c.units-test.ensures.no refl)) | inr less ↦ less ]
