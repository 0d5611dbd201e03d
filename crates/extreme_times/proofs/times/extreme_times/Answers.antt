use Rattle.extreme_times.proofs.Attained.{AreExtremes-found}
use Rattle.extreme_times.proofs.times.extreme_times.Goals as goal

pub returns-then-are_late : goal.returns-then-are_late
returns-then-are_late c = AreExtremes-found c.args.problem.now c.requires _ _ (c.are_early.ensures c.if-are_early.true) (c.are_late.ensures c.if-are_late.true)
