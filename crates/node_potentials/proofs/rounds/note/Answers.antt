use Rattle.std.proofs.Common.{arith}
use Rattle.node_potentials.proofs.Noting.{AreNoted-more, down_count-set}
use Rattle.node_potentials.proofs.rounds.note.Goals as goal

pub bounds-moved-count : goal.bounds-moved-count
bounds-moved-count c = omega (arith, c.requires.noted.few, c.requires.noted.size, down_count-set c.args.is_moved.now c.args.node.0 c.requires.node c.if-is_moved-place.false)

pub returns-clause-noted : goal.returns-clause-noted
returns-clause-noted c = AreNoted-more c.args.is_moved.now c.args.moved.now c.args.count c.args.node c.requires.node c.if-is_moved-place.false c.requires.noted
