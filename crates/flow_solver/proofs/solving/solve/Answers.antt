use Rattle.std.proofs.Common.{arith}
use Rattle.std.proofs.lemmas.Int.{ints}
use Rattle.flow_solver.proofs.Augments.{HasRoom-slack, Fits-same}
use Rattle.flow_solver.proofs.Settling.{HasSlack-fresh, IsSettled-slack, IsSettled-trimmed, SameNetwork-trimmed, total_limit-weight}
use Rattle.flow_solver.proofs.solving.solve.Goals as goal

pub settle-requires-clause-slack : goal.settle-requires-clause-slack
settle-requires-clause-slack g c = λ lawful. HasSlack-fresh c.args.net.now c.args.problem.now c.requires.sound lawful c.requires.fits c.requires.fresh

pub trim-requires-clause-room : goal.trim-requires-clause-room
trim-requires-clause-room g c = HasRoom-slack c.settle.new.net (c.settle.ensures.rounds.slack c.settle.ensures.lawful)

pub returns-clause-settled : goal.returns-clause-settled
returns-clause-settled g c =
    IsSettled-trimmed c.settle.new.net c.trim.new.self
    (IsSettled-slack c.settle.new.net c.settle.ensures.lawful c.settle.ensures.rounds.closed (c.settle.ensures.rounds.slack c.settle.ensures.lawful) c.settle.ensures.balanced)
    c.trim.ensures.same c.trim.ensures.less c.trim.ensures.balanced

pub returns-clause-fits : goal.returns-clause-fits
returns-clause-fits g c =
    Fits-same c.settle.new.net c.trim.new.self c.args.problem.now (SameNetwork-trimmed c.settle.new.net c.trim.new.self c.trim.ensures.same)
    (Fits-same c.args.net.now c.settle.new.net c.args.problem.now c.settle.ensures.rounds.same c.requires.fits)

pub returns-clause-starts : goal.returns-clause-starts
returns-clause-starts g c =
    omega (arith, ints, c.trim.ensures.starts, total_limit-weight c.trim.new.self c.args.problem.now (returns-clause-fits g c))
