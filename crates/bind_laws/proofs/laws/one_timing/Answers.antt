use Rattle.bind_laws.proofs.OneTiming.{one-timing}
use Rattle.bind_laws.proofs.laws.one_timing.Goals as goal

pub returns : goal.returns
returns c = one-timing
